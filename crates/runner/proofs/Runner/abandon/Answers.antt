-- A run under way is dropped; without one the call is refused.
use mathlib.Core.Path.{ap, sym, ◌∙◌}
use Rattle.std.specs.Prelude.{Err}
use Rattle.runner.proofs.Outcomes.{abandon_refuses, abandon_drops}
use Rattle.runner.proofs.Runner.abandon.Goals as goal

pub returns-then-not-is_running : goal.returns-then-not-is_running
returns-then-not-is_running c = abandon_refuses _ (Err c.into.result) (sym c.is_running.ensures ∙ c.if-not-is_running.true) (ap Err c.into.ensures)

pub returns : goal.returns
returns c = abandon_drops _ c.drop_run.new.self (sym c.is_running.ensures ∙ c.if-not-is_running.false) c.drop_run.ensures
