-- `promised` holds the claims of this crate: each by its theorem.
use Rattle.example_files.proofs.Computed.{file_examples, check_cases_lem, blocks_exchanged, conversion_cases_lem}
use Rattle.example_files.proofs.promised.Goals as goal

pub returns : goal.returns
returns c = (
  file_examples,
  check_cases_lem,
  blocks_exchanged,
  conversion_cases_lem,
)
