-- `first_marks` puts the marks of the inputs before j at the front; the rest is 0.
use Rattle.std.proofs.Common.{◌≡◌, ◌-◌, ◌++◌, replicate}
use Rattle.begin.specs.Begin.{withheld_marks}
use Rattle.begin.proofs.first_marks.Given as goal

abbrev pub invariant-loop-j : goal.invariant-loop-j
invariant-loop-j l = l.mark-items ≡ withheld_marks l.allowed l.j ++ replicate (l.end - l.j) 0
