-- `first_failing` goes up the numbers: those before i pass.
use Rattle.std.proofs.Common.{ℕ, ◌<◌, true}
use Rattle.format.proofs.first_failing.Given as goal

abbrev pub invariant-loop-i : goal.invariant-loop-i
invariant-loop-i g l = (j : ℕ) → j < l.i → goal.F-post g l.test j true
