-- `turn` feeds the bytes at hand, and keeps what has not ended.
use Rattle.std.proofs.Common.{arith}
use Rattle.transcript.proofs.States.{turn_writes, turn_stops, turn_reads}
use Rattle.transcript.proofs.Session.turn.Goals as goal

pub returns-then-fed-gt0-clause-turned : goal.returns-then-fed-gt0-clause-turned
returns-then-fed-gt0-clause-turned c =
    let fed = c.feed-fed.ensures in
    turn_writes c.clamp.ensures _ _ _ _ fed.value fed.out_after c.if-fed-gt0.true

pub returns-then-self-clause-turned : goal.returns-then-self-clause-turned
returns-then-self-clause-turned c =
    let fed = c.feed-fed.ensures in
    turn_stops c.clamp.ensures _ _ _ _ fed.value fed.out_after (omega (arith, c.if-fed-gt0.false)) c.if-self.true

pub returns-clause-turned : goal.returns-clause-turned
returns-clause-turned c =
    let fed = c.feed-fed.ensures in
    let kept = c.keep-self.ensures in
    turn_reads c.clamp.ensures _ _ _ _ fed.value fed.out_after (omega (arith, c.if-fed-gt0.false)) c.if-self.false kept.value kept.buffer_after
