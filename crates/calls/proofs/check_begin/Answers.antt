-- `check_begin` tests in the definition's order: each place of the code knows which rules have been
-- kept, and each return cites what `check` tells there.
use mathlib.Core.Path.{◌≡◌, sym, ◌∙◌}
use native.Mathlib.Omega.{arith}
use borrow.Author.Rules.{rules}
use Rattle.std.specs.Prelude.{Err}
use Rattle.format.proofs.Ranges.{in_range_lem}
use Rattle.calls.specs.Calls.{begin, check}
use Rattle.calls.proofs.Refusals.{not_at_rest, rests}
use Rattle.calls.proofs.check_begin.Goals as goal

pub overflow_shr-allowed : goal.overflow_shr-allowed
overflow_shr-allowed c = omega (arith, (in_range_lem c.args.standing.header (rests c.args.standing (sym c.at_rest.ensures ∙ c.in_ok-at_rest.was)).0).few)

pub returns-in_err-at_rest : goal.returns-in_err-at_rest
unfolding check
returns-in_err-at_rest c =
    let a = c.args in
    let e = sym c.at_rest.ensures ∙ c.in_err-at_rest.was in
    let told : Err _ ≡ check (begin a.mode a.inputs.now a.allowed a.limit) a.standing = sym e ∙ not_at_rest a.standing _ _ e in
    search rules
