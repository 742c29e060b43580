-- `all_zero` goes over the bytes, and knows of those that it has passed.
use Rattle.std.proofs.Common.{◌≡◌, take}
use Rattle.boxes.specs.Bytes.{all_zero}
use Rattle.boxes.proofs.all_zero.Given as goal

abbrev pub invariant-loop-b : goal.invariant-loop-b
invariant-loop-b l = l.clear ≡ all_zero (take l.b-index l.bytes)
