use Rattle.std.proofs.Common.{arith}
use Rattle.begin.proofs.Fill.{places_long, marks_none, marks_more, marks_filled}
use Rattle.begin.proofs.first_marks.Goals as goal

pub loop-j-init : goal.loop-j-init
loop-j-init c = marks_none c.args.allowed c.min-end.result (omega arith)

pub loop-j-preserved : goal.loop-j-preserved
loop-j-preserved c =
    let l = c.loop-j in
    let long = places_long c.min-end.result (omega arith) in
    rw c.withheld_mark.ensures (marks_more c.args.allowed c.min-end.result l.j l.mark-items (omega arith) l.invariant)

pub returns : goal.returns
returns c =
    let a = c.args in
    let l = c.loop-j in
    let long = places_long c.min-end.result (omega arith) in
    marks_filled a.allowed a.k c.min-end.result l.j l.mark-items (omega arith) (omega arith) l.invariant
