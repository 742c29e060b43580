-- `promised` holds the claims of this crate: each by its theorem.
use Rattle.program_claims.proofs.LineLaws.{lines_end, lines_apart}
use Rattle.program_claims.proofs.Sessions.{writes_transcript, answers_first, begins_transcript, writes_end}
use Rattle.program_claims.proofs.Files.{first_bytes}
use Rattle.program_claims.proofs.promised.Goals as goal

pub returns : goal.returns
returns c = (lines_end, lines_apart, writes_transcript, answers_first, begins_transcript, writes_end, first_bytes)
