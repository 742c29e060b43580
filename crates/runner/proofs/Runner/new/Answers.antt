-- A new runner is the definition's, field by field.
use mathlib.Core.Path.{refl}
use Rattle.runner.specs.State.{new_runner}
use Rattle.runner.proofs.Runner.new.Goals as goal

pub returns : goal.returns
unfolding new_runner
returns c = refl
