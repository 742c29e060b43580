-- `checksum` goes up the bytes: the sum so far, which starts at what is added, and the terms still
-- to come are the whole sum, modulo 65,536.
use Rattle.std.proofs.Common.{◌≡◌, ◌+◌, ◌-◌, ◌%◌, ◌<◌, ◌≤◌, length}
use Rattle.std.specs.Iterator.Adapters.{zip_first, zip_second}
use Rattle.std.specs.Slice.Iter.{iter_rest}
use Rattle.block.specs.Block.{weighted, checksum}
use Rattle.block.proofs.checksum.Given as goal

abbrev pub invariant-loop-weight : goal.invariant-loop-weight
invariant-loop-weight l =
    let next = (zip_first l.weight-iterator).start in
    let rest = iter_rest (zip_second l.weight-iterator) in
    record {
      starts : 0 < next;
      left : next + length rest ≤ 511;
      sums : (l.sum + weighted (next - 1) rest) % 65536 ≡ checksum l.added l.block;
    }
