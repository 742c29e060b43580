-- `check_advance` tests in the definition's order.
use Rattle.std.specs.Prelude.{Err}
use mathlib.Core.Path.{ap, ◌∙◌}
use borrow.Author.Tests.{not-true, not-false}
use Rattle.calls.proofs.Refusals.{tells_no_run, tells_less, tells_enough}
use Rattle.calls.proofs.check_advance.Goals as goal

pub returns-then-not-standing : goal.returns-then-not-standing
returns-then-not-standing c = ap Err c.into.ensures ∙ tells_no_run _ _ (not-true _ c.if-not-standing.true)

pub returns-then-m-standing : goal.returns-then-m-standing
returns-then-m-standing c = ap Err c.into-then-m-standing.ensures ∙ tells_less _ _ (not-false _ c.if-not-standing.false) c.if-m-standing.true

pub returns : goal.returns
returns c = tells_enough _ _ (not-false _ c.if-not-standing.false) c.if-m-standing.false
