use Rattle.std.proofs.Common.{◌≡◌, ℕ, ◌+◌, ◌*◌, ◌-◌, ◌++◌, List, length, ap, ◌∙◌, arith, rules, replicate}
use Rattle.std.proofs.lemmas.List.{drop-replicate}
use Rattle.format.proofs.Places.{part_to}
use Rattle.chart.specs.Chart.{joined, box_blocks, boxes_of, table_of}
use Rattle.chart.proofs.Lists.{length_part}
use Rattle.chart.proofs.Joined.{Sized, put_next}
use Rattle.chart.proofs.table_of.Goals as goal

pub loop-j-init : goal.loop-j-init
unfolding joined
loop-j-init c = search rules

pub loop-j-preserved : goal.loop-j-preserved
loop-j-preserved c =
    let l = c.loop-j in
    let f = c.args.file.now in
    let size : Sized (boxes_of f) 510 (l.j + 1) = λ i q. length_part f (512 * (1 + i)) 510 (omega arith) in
    let left = 2040 - 510 * l.j in
    let rest : left - 510 ≡ 2040 - 510 * (l.j + 1) = omega arith in
    let piece : c.copy_from_slice.new.self ≡ boxes_of f l.j = c.copy_from_slice.ensures.after ∙ part_to f (512 * (1 + l.j)) 510 in
    put_next (boxes_of f) 510 l.j (510 * l.j + 510 - 510 * l.j) l.table (replicate left 0) c.copy_from_slice.new.self size (omega arith) piece l.invariant
    ∙ ap (λ (r : List ℕ). joined (boxes_of f) (l.j + 1) ++ r) (drop-replicate 510 left 0 ∙ ap (λ (n : ℕ). replicate n 0) rest)

pub returns : goal.returns
unfolding table_of
returns c =
    let a = c.args in
    let l = c.loop-j in
    let all : l.j ≡ box_blocks (length a.file.now) = omega arith in
    l.invariant ∙ ap (λ (m : ℕ). joined (boxes_of a.file.now) m ++ replicate (2040 - 510 * m) 0) all
