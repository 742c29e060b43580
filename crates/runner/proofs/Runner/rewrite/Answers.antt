-- The verdict is that of the rules of the rewriter; where it is done, the table is rewritten in its
-- own place and nothing of a run is held.
use mathlib.Core.Path.{refl, ap, sym, ◌∙◌}
use Rattle.calls.specs.Calls.{rewrite, check}
use Rattle.runner.specs.State.{dropped}
use Rattle.runner.proofs.Outcomes.{rewrite_accepts, rewrite_refuses}
use Rattle.runner.proofs.Runner.rewrite.Goals as goal

pub returns-in-Err : goal.returns-in-Err
returns-in-Err c = rewrite_refuses c.args.self _ _ (sym c.in-Err.is ∙ c.check_rewrite.ensures ∙ ap (check rewrite) c.standing.ensures) refl

pub returns : goal.returns
unfolding dropped
returns c =
    rewrite_accepts c.args.self _ c.drop_run.new.self (sym c.in_default.is ∙ c.check_rewrite.ensures ∙ ap (check rewrite) c.standing.ensures) c.rewrite.ensures c.drop_run.ensures
