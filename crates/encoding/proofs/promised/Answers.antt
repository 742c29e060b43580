-- `promised` holds the claims of this crate: each by its theorem.
use Rattle.encoding.proofs.Numbers.{encodes_once}
use Rattle.encoding.proofs.promised.Goals as goal

pub returns : goal.returns
returns c = encodes_once
