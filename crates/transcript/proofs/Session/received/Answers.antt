-- `received`, by what the read brought.
use Rattle.transcript.proofs.States.{read_failed, read_some}
use Rattle.transcript.proofs.Session.received.Goals as goal

pub returns-in-Some : goal.returns-in-Some
returns-in-Some c = read_some c.clamp.ensures c.in-Some.is c.min-count.ensures

pub returns-in-None : goal.returns-in-None
returns-in-None c = read_failed c.clamp.ensures c.in-None.is
