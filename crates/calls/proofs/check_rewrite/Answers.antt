-- `check_rewrite` tests in the definition's order.
use mathlib.Core.Path.{◌≡◌, sym, ◌∙◌}
use borrow.Author.Rules.{rules}
use Rattle.std.specs.Prelude.{Err}
use Rattle.calls.specs.Calls.{rewrite, check}
use Rattle.calls.proofs.Refusals.{not_at_rest}
use Rattle.calls.proofs.check_rewrite.Goals as goal

pub returns-in_err-at_rest : goal.returns-in_err-at_rest
unfolding check
returns-in_err-at_rest c =
    let a = c.args in
    let e = sym c.at_rest.ensures ∙ c.in_err-at_rest.was in
    let told : Err _ ≡ check rewrite a.standing = sym e ∙ not_at_rest a.standing _ _ e in
    search rules
