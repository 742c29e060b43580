-- `promised` holds the claims of this crate: each by its theorem.
use Rattle.example_runs.proofs.Computed.{paper_cases_lem, naming_cases_lem, hidden_cases_lem, edition_cases_lem, rewriting_cases_lem, keeping_cases_lem}
use Rattle.example_runs.proofs.promised.Goals as goal

pub returns : goal.returns
returns c = (
  paper_cases_lem,
  naming_cases_lem,
  hidden_cases_lem,
  edition_cases_lem,
  rewriting_cases_lem,
  keeping_cases_lem,
)
