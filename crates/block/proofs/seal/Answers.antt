-- `seal` puts the two bytes of the check one after the other.
use Rattle.block.specs.Block.{with_seal}
use Rattle.block.proofs.Sums.{check_high}
use Rattle.block.proofs.seal.Goals as goal

pub returns : goal.returns
unfolding with_seal
returns c = rw (c.put-2.ensures, c.put.ensures, c.to_le_bytes.ensures, c.checksum.ensures, check_high)
