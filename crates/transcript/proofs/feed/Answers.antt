-- `feed`: a turn of its loop answers a line, and its end leaves none that can be answered.
use Rattle.std.proofs.Common.{refl, arith, rules}
use Rattle.transcript.proofs.Feeds.{all, text, starts, shorter, answered, Ends, ends_lines, ends_room}
use Rattle.transcript.proofs.feed.Goals as goal
use Rattle.transcript.proofs.feed.Goals.{in-Some+then-out-length-lt64, in_default}

pub loop-line-init : goal.loop-line-init
loop-line-init c = starts _ _ _ _ _

pub loop-line-smaller : goal.loop-line-smaller
loop-line-smaller c = shorter _ _ _ _ _ c.loop-line.invariant c.in-Some.ensures.line c.in-Some.ensures.rest

pub loop-line-preserved : goal.loop-line-preserved
unfolding text
loop-line-preserved c =
    let cut = c.in-Some.ensures in
    let size = c.respond-length.ensures in
    answered _ _ _ _ _ c.loop-line.invariant cut.line cut.rest _ _ _ refl c.if-out-length-lt64.false size.value size.out_after (search rules)

pub overflow_add-length : goal.overflow_add-length
overflow_add-length c =
    let done = loop-line-preserved c in
    omega (arith, done.fits)

pub returns : goal.returns
unfolding all
returns c =
    let h = c.loop-line.invariant in
    let done : Ends _ _ _ _ _ h = elim c.match-split_line.branch [
      | in-Some+then-out-length-lt64 w ↦ ends_room _ _ _ _ _ h w.if-out-length-lt64.true
      | in_default w ↦ ends_lines _ _ _ _ _ h w.in_default.ensures.line
    ] in
    record { value = done.0; out_after = done.1 }
