-- `read` reads behind what it has, which fits.
use Rattle.std.proofs.Common.{length, ◌-◌, ◌≤◌}
use Rattle.test_text.proofs.input.read.Given as goal

abbrev pub invariant-loop-length : goal.invariant-loop-length
invariant-loop-length g l = l.length ≤ length l.buffer

abbrev pub decreases-loop-length : goal.decreases-loop-length
decreases-loop-length g l = length l.initial.buffer - l.length
