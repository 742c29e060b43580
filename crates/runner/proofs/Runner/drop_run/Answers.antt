-- `drop_run` stores what the definition says.
use mathlib.Core.Path.{refl}
use Rattle.runner.specs.State.{dropped}
use Rattle.runner.proofs.Runner.drop_run.Goals as goal

pub returns : goal.returns
unfolding dropped
returns c = refl
