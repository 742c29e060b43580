-- `put_file` joins the blocks: those before j stand at the front, and the rest of the buffer is
-- as it was.
use Rattle.std.proofs.Common.{◌≡◌, ◌*◌, ◌++◌, drop}
use Rattle.chart.specs.Chart.{joined, sealed_block}
use Rattle.chart.proofs.put_file.Given as goal

abbrev pub invariant-loop-j : goal.invariant-loop-j
invariant-loop-j l = l.buf ≡ joined (sealed_block l.header l.table) l.j ++ drop (512 * l.j) l.initial.buf
