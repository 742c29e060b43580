-- `write_block` copies the header, or the 51 boxes that the definition names, to the front of the
-- part, and seals it by what block j adds.
use Rattle.std.proofs.Common.{◌≡◌, ℕ, ◌*◌, ◌-◌, length, sym, ap, ◌∙◌, arith}
use Rattle.std.proofs.lemmas.List.{length-take-le}
use Rattle.block.specs.Block.{with_seal, seal}
use Rattle.format.specs.File.{addend}
use Rattle.format.proofs.Places.{part_to}
use Rattle.chart.specs.Chart.{body_of}
use Rattle.chart.proofs.Blocks.{body_first, body_later, length_header, sealed_body}
use Rattle.chart.proofs.write_block.Goals as goal
use Rattle.chart.proofs.write_block.Goals.{then-j-eq0, else-j-eq0}

pub slice_bounds-copy_from_slice-end-then-j-eq0 : goal.slice_bounds-copy_from_slice-end-then-j-eq0
slice_bounds-copy_from_slice-end-then-j-eq0 c = sym (length-take-le 510 c.args.part.now (omega arith))

pub copy_from_slice-requires : goal.copy_from_slice-requires
copy_from_slice-requires c =
    length-take-le 510 c.args.part.now (omega arith) ∙ sym (ap length c.header_body.ensures ∙ length_header c.args.header)

pub slice_bounds-copy_from_slice-end-else-j-eq0-2 : goal.slice_bounds-copy_from_slice-end-else-j-eq0-2
slice_bounds-copy_from_slice-end-else-j-eq0-2 c = sym (length-take-le 510 c.args.part.now (omega arith))

pub copy_from_slice-requires-else-j-eq0 : goal.copy_from_slice-requires-else-j-eq0
copy_from_slice-requires-else-j-eq0 c = length-take-le 510 c.args.part.now (omega arith) ∙ omega arith

pub returns : goal.returns
returns c =
    let a = c.args in
    let h = a.header in
    let t = a.table.now in
    let part = c.if-j-eq0.part in
    let added = addend h.edition a.j in
    let front = length-take-le 510 a.part.now (omega arith) in
    let put : with_seal added part ≡ seal added (body_of h t a.j) =
    elim c.if-j-eq0.branch [
      | then-j-eq0 w ↦
          let body = w.copy_from_slice.ensures.after ∙ w.header_body.ensures ∙ body_first h t a.j w.if-j-eq0.true in
          rw (← body) (sealed_body added _ a.part.now part (omega arith) (w.copy_from_slice.ensures.len ∙ front) w.part-is)
      | else-j-eq0 w ↦
          let boxes = rw w.from-start.ensures at w.copy_from_slice-else-j-eq0.ensures.after in
          let body = boxes ∙ part_to t (510 * (a.j - 1)) 510 ∙ body_later h t a.j w.if-j-eq0.false in
          rw (← body) (sealed_body added _ a.part.now part (omega arith) (w.copy_from_slice-else-j-eq0.ensures.len ∙ front) w.part-is)
    ]
    in
    c.seal.ensures ∙ ap (λ (n : ℕ). with_seal n part) c.addend.ensures ∙ put
