-- What the state and the mode of a runner say. Assumes nothing.
use Prim.Native.Nat.{◌≤◌}
use mathlib.Core.Path.{◌≡◌, refl}
use mathlib.Core.Bool.{true, false≢true}
use native.Mathlib.Omega.{arith}
use Rattle.marks.specs.Marks.{mode_of, mode_in}
use Rattle.marks.specs.declared.Mode as code
use Rattle.marks.specs.declared.Mode.TheVariants.{Bare, Surveillance, HighWater}
use Rattle.runner.specs.declared.State.{State}
use Rattle.runner.specs.declared.State.TheVariants.{NoRun, Running, Ended}
use Rattle.runner.specs.State.{is_running_in, mode_number}

pub runs_in : (s : State) → is_running_in s ≡ true → s ≡ Running
runs_in NoRun e = absurd (false≢true e)
runs_in Running e = refl
runs_in (Ended a) e = absurd (false≢true e)

-- The number of a mode, and of the mode of a number.
pub number_back : (m : code.Mode) → mode_of (mode_number m) ≡ mode_in m
number_back Bare = refl
number_back Surveillance = refl
number_back HighWater = refl

pub mode_few : (m : code.Mode) → mode_number m ≤ 2
mode_few Bare = omega arith
mode_few Surveillance = omega arith
mode_few HighWater = omega arith
