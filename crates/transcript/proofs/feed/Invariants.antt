-- `feed` answers a line in each turn of its loop.
use Rattle.std.proofs.Common.{length}
use Rattle.transcript.proofs.Feeds.{Feeds}
use Rattle.transcript.proofs.feed.Given as goal

abbrev pub invariant-loop-line : goal.invariant-loop-line
invariant-loop-line l = Feeds l.fn.runner l.fn.lines l.fn.over l.fn.input l.initial.out l.left l.out l.count l.length

abbrev pub decreases-loop-line : goal.decreases-loop-line
decreases-loop-line l = length l.left
