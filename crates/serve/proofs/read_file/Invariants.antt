-- `read_file` reads behind what it has, which fits.
use Rattle.std.proofs.Common.{length, ◌-◌, ◌≤◌}
use Rattle.serve.proofs.read_file.Given as goal

abbrev pub invariant-loop-length : goal.invariant-loop-length
invariant-loop-length g l = l.length ≤ length l.buf

abbrev pub decreases-loop-length : goal.decreases-loop-length
decreases-loop-length g l = length l.initial.buf - l.length
