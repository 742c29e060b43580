-- An ended run tells its ending; else the call is refused.
use Rattle.runner.proofs.Outcomes.{not_ended, answer_refuses, answer_tells}
use Rattle.runner.proofs.Runner.answer.Goals as goal

pub returns-in-Ended : goal.returns-in-Ended
returns-in-Ended c = answer_tells _ _ c.in-Ended.is

pub returns-in_default : goal.returns-in_default
returns-in_default c = answer_refuses _ _ c.into.ensures (not_ended _ c.in_default.not-Ended)
