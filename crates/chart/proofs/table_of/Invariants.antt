-- `table_of` joins the blocks of boxes: those before j stand at the front, and the rest of the
-- table is zero.
use Rattle.std.proofs.Common.{◌≡◌, ◌*◌, ◌-◌, ◌++◌, replicate}
use Rattle.chart.specs.Chart.{joined, boxes_of}
use Rattle.chart.proofs.table_of.Given as goal

abbrev pub invariant-loop-j : goal.invariant-loop-j
invariant-loop-j l = l.table ≡ joined (boxes_of l.file) l.j ++ replicate (2040 - 510 * l.j) 0
