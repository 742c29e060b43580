-- The verdict is that of the rules of begin; a mode and a limit that they let pass fit their
-- fields.
use mathlib.Core.Path.{ap, sym, ◌∙◌}
use borrow.Author.Rules.{rules}
use Rattle.begin.proofs.Begins.{effective_fits}
use Rattle.calls.specs.Calls.{check}
use Rattle.calls.proofs.Permits.{permitted}
use Rattle.runner.proofs.Outcomes.{begin_accepts, begin_refuses}
use Rattle.runner.proofs.Runner.begin.Goals as goal

pub overflow_cast-mode : goal.overflow_cast-mode
overflow_cast-mode c =
    let known = (permitted _ _ _ _ _ (sym c.check_begin-told.ensures ∙ c.in-Ok.is)).known in
    search rules

pub overflow_cast-self : goal.overflow_cast-self
overflow_cast-self c =
    let fits = effective_fits _ (permitted _ _ _ _ _ (sym c.check_begin-told.ensures ∙ c.in-Ok.is)).fits in
    let is = c.effective.ensures in
    search rules

pub returns-in-Ok : goal.returns-in-Ok
returns-in-Ok c =
    rw c.in-Ok.is
    (begin_accepts _ _ _ _ c.args.self _ _ _ _ (sym c.in-Ok.is ∙ c.check_begin-told.ensures ∙ ap (check _) c.standing.ensures) c.first_vars-self.ensures
    c.first_marks-self.ensures c.effective.ensures c.from-self.ensures)

pub returns-in_default : goal.returns-in_default
returns-in_default c = begin_refuses _ _ _ _ c.args.self _ _ (c.check_begin-told.ensures ∙ ap (check _) c.standing.ensures) c.in_default.is
