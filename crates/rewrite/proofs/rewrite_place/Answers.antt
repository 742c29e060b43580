-- `rewrite_place` stores the choice where the box is replaced; else the table stays.
use Rattle.std.proofs.Common.{◌∙◌, ℕ, ◌*◌, ◌+◌, ◌++◌, List, take, drop, ap, arith}
use Rattle.rewrite.specs.Rewrite.{rewritten_box}
use Rattle.rewrite.proofs.Replaced.{choice_put, choice_none}
use Rattle.rewrite.proofs.Halfway.{store_box, leave_box}
use Rattle.rewrite.proofs.rewrite_place.Goals as goal

pub returns-in-Some : goal.returns-in-Some
returns-in-Some c =
    let t = c.args.table.now in
    let p = c.args.p in
    let put = choice_put t p c.in-Some.choice c.in-Some.ensures in
    rw c.from-start.ensures (store_box t (rewritten_box t p) _ (10 * p) _ (omega arith) (c.copy_from_slice.ensures.after ∙ put))

pub returns-in_default : goal.returns-in_default
returns-in_default c =
    let t = c.args.table.now in
    let p = c.args.p in
    leave_box t p ∙ ap (λ (b : List ℕ). take (10 * p) t ++ (b ++ drop (10 * p + 10) t)) (choice_none t p c.in_default.ensures)
