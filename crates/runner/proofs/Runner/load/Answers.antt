-- A run under way refuses; else the file's checks decide.
use mathlib.Core.Path.{sym, ◌∙◌}
use Rattle.runner.specs.State.{dropped}
use Rattle.runner.proofs.Outcomes.{load_busy, load_accepts, load_refuses}
use Rattle.runner.proofs.Runner.load.Goals as goal

pub returns-then-is_running : goal.returns-then-is_running
returns-then-is_running c = load_busy _ _ _ c.into.ensures (sym c.is_running.ensures ∙ c.if-is_running.true)

pub returns-in-Ok : goal.returns-in-Ok
unfolding dropped
returns-in-Ok c =
    load_accepts _ _ _ _ c.drop_run.new.self (sym c.is_running.ensures ∙ c.if-is_running.false)
    (sym c.check_file.ensures ∙ c.in-Ok.is)
    c.table_of-self.ensures
    c.drop_run.ensures

pub returns-in-Err : goal.returns-in-Err
returns-in-Err c = load_refuses _ _ _ (sym c.is_running.ensures ∙ c.if-is_running.false) (sym c.check_file.ensures ∙ c.in-Err.is)
