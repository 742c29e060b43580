-- `is_sealed` compares the two bytes with the check's.
use Rattle.block.specs.Block.{is_sealed}
use Rattle.block.proofs.Sums.{check_high}
use Rattle.block.proofs.is_sealed.Goals as goal

pub returns : goal.returns
unfolding is_sealed
returns c = rw (c.to_le_bytes.ensures, c.checksum.ensures, check_high, c.byte.ensures, c.byte-2.ensures)
