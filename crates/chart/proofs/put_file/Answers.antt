use Rattle.std.proofs.Common.{◌≡◌, ℕ, ◌+◌, ◌*◌, ◌-◌, ◌++◌, List, drop, ap, sym, ◌∙◌, arith, rules}
use Rattle.std.proofs.lemmas.List.{drop-drop}
use Rattle.format.specs.File.{blocks_for}
use Rattle.chart.specs.Chart.{joined, sealed_block, file_of}
use Rattle.chart.specs.WriteBack.{with_file}
use Rattle.chart.proofs.Joined.{put_next}
use Rattle.format.proofs.Ranges.{in_range_lem}
use Rattle.chart.proofs.Blocks.{blocks_sized}
use Rattle.chart.proofs.Writes.{put_fits}
use Rattle.chart.proofs.put_file.Goals as goal

pub loop-j-init : goal.loop-j-init
unfolding joined
loop-j-init c = search rules

pub loop-j-preserved : goal.loop-j-preserved
loop-j-preserved c =
    let a = c.args in
    let l = c.loop-j in
    let buf = a.buf.now in
    let piece : ℕ → List ℕ = sealed_block a.header a.table.now in
    let ranged = in_range_lem a.header (sym c.in_range.ensures ∙ c.if-in_range.true) in
    let size = blocks_sized a.header a.table.now (l.j + 1) (omega arith) (omega arith) in
    let up : 512 * l.j + 512 ≡ 512 * (l.j + 1) = omega arith in
    put_next piece 512 l.j (512 * l.j + 512 - 512 * l.j) l.buf (drop (512 * l.j) buf) c.write_block.new.part size (omega arith) c.write_block.ensures l.invariant
    ∙ ap (λ (r : List ℕ). joined piece (l.j + 1) ++ r) (drop-drop 512 (512 * l.j) buf ∙ ap (λ (n : ℕ). drop n buf) up)

pub returns-after-loop-j : goal.returns-after-loop-j
unfolding with_file file_of
returns-after-loop-j c =
    let a = c.args in
    let l = c.loop-j in
    let all : l.j ≡ blocks_for a.header.boxes = omega arith in
    let joins = ap (λ (n : ℕ). joined (sealed_block a.header a.table.now) n ++ drop (512 * n) a.buf.now) all in
    let fits = put_fits a.header a.table.now a.buf.now (sym c.in_range.ensures ∙ c.if-in_range.true) (omega arith) in
    l.invariant ∙ joins ∙ sym fits
