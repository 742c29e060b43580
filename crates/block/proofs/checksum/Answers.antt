use Rattle.std.proofs.Common.{◌≡◌, ◌∙◌, min, length, arith, inl, inr}
use Rattle.std.proofs.lemmas.List.{take_min, length-take}
use Rattle.block.specs.Block.{checksum}
use Rattle.block.proofs.Sums.{sum_more, sum_end}
use Rattle.block.proofs.checksum.Goals as goal

pub loop-weight-init : goal.loop-weight-init
unfolding checksum
loop-weight-init c =
    let b = c.args.block.now in
    let zip = c.zip-weight-items.ensures in
    let end : c.min-end.result ≡ min 510 (length b) = omega arith in
    let long = length-take 510 b in
    rw (c.into_iter-weight-iterator.ensures.into_iter_gives, zip.first, zip.second.0, end, take_min 510 b)
    (record { starts = omega arith; left = omega arith; sums = omega arith })

pub loop-weight-preserved : goal.loop-weight-preserved
loop-weight-preserved c =
    let l = c.loop-weight in
    let s = c.in-Some.ensures.steps in
    let inv = rw (← s.0.0, s.1) at l.invariant in
    rw (s.0.1, c.from.ensures)
    (record { starts = omega arith; left = omega arith; sums = sum_more l.sum c.in-Some.weight _ c.in-Some.byte.now _ inv.starts inv.sums })

pub returns : goal.returns
returns c =
    let l = c.loop-weight in
    c.from-2.ensures
    ∙ elim c.in-None.ensures.steps [
      | inl top ↦ absurd (omega arith)
      | inr last ↦ sum_end l.sum _ _ _ last.1.0 (omega arith) l.invariant.sums
    ]
