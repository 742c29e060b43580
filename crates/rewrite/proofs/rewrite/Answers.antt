use Rattle.std.proofs.Common.{◌≡◌, ℕ, ◌+◌, ◌*◌, ◌++◌, List, take, drop, ap, ◌∙◌, arith, rules}
use Rattle.chart.specs.Chart.{joined}
use Rattle.rewrite.specs.Rewrite.{rewritten_box}
use Rattle.rewrite.proofs.Halfway.{halfway, place_more, all_rewritten}
use Rattle.rewrite.proofs.rewrite.Goals as goal

pub loop-p-init : goal.loop-p-init
unfolding joined
loop-p-init c = search rules

pub loop-p-preserved : goal.loop-p-preserved
loop-p-preserved c =
    let l = c.loop-p in
    let t = c.args.table.now in
    let stored : List ℕ → List ℕ = λ s. take (10 * l.p) s ++ (rewritten_box s l.p ++ drop (10 * l.p + 10) s) in
    c.rewrite_place.ensures ∙ ap stored l.invariant ∙ place_more t l.p c.told-table (omega arith)

pub returns : goal.returns
returns c =
    let l = c.loop-p in
    let t = c.args.table.now in
    let all : l.p ≡ 204 = omega arith in
    l.invariant ∙ ap (halfway t) all ∙ all_rewritten t c.told-table
