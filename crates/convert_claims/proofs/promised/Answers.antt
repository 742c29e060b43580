-- `promised` holds the claims of this crate: each by its theorem.
use Rattle.convert_claims.proofs.Boxes.{kinds_of_boxes}
use Rattle.convert_claims.proofs.Files.{converts_to_other, converts_into_any, converts_back, refused_as_loaded, refuses_first_untaken, refusal_leaves_buffer}
use Rattle.convert_claims.proofs.Charts.{ends_alike, tells_alike}
use Rattle.convert_claims.proofs.promised.Goals as goal

pub returns : goal.returns
returns c = (
  converts_to_other,
  converts_into_any,
  converts_back,
  ends_alike,
  tells_alike,
  refuses_first_untaken,
  kinds_of_boxes,
  refused_as_loaded,
  refusal_leaves_buffer,
)
