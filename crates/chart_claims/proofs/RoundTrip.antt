-- The round trip. Each block of an accepted file is its first 510 bytes with their check; those
-- bytes are the header's or stand in the box table; so the blocks that write back joins are the
-- file's, and what holds of the file holds of what is written. Assumes nothing.
use Rattle.std.specs.Prelude.{Ok, Err}
use Prim.Native.Nat.{ℕ, zero, suc, ◌+◌, ◌*◌, ◌-◌, ◌≤◌, ◌<◌}
use mathlib.Core.Path.{◌≡◌, refl, ap, sym, ◌∙◌}
use mathlib.Core.List.{List, [], ◌∷◌, ◌++◌}
use mathlib.Core.Bool.{true}
use native.Mathlib.Omega.{arith}
use native.Mathlib.Nat.{mul-zero, mul-suc}
use lib.ListN.{length, take, drop, replicate, take-append-drop, drop_of_length-le}
use lib.Seq.{take-add, take_all, take-take, drop-cons}
use borrow.Author.Tests.{le-leb}
use Rattle.boxes.specs.Bytes.{at, part}
use Rattle.block.specs.Block.{is_sealed, seal}
use Rattle.block.proofs.Sums.{check_front}
use Rattle.block.proofs.Seals.{sealed_bytes}
use Rattle.format.specs.File.{addend, block_of, blocks_for, check_rule, check_file}
use Rattle.format.specs.declared.Header.{Header}
use Rattle.boxes.proofs.Zeros.{zeros_are}
use Rattle.format.proofs.Passes.{Passes, passes}
use Rattle.format.proofs.Ranges.{in_range_lem}
use Rattle.chart.specs.Chart.{joined, box_blocks, boxes_of, table_of, header_body, body_of, sealed_block, file_of}
use Rattle.chart.specs.WriteBack.{file_length, has_room, with_file, put_file}
use Rattle.chart_claims.specs.Claims.{FileHasLength, ReproducesFile, ReproducesChart}
use Rattle.chart.proofs.Lists.{length_part}
use Rattle.chart.proofs.Joined.{joined_length, joined_same, joined_piece}
use Rattle.chart.proofs.Blocks.{blocks_sized}
use Rattle.chart.proofs.Writes.{put_fits}

-- A block that holds its check is its first 510 bytes, sealed.
seal_front : (added : ℕ) (b : List ℕ) → length b ≡ 512 → is_sealed added b ≡ true → seal added (take 510 b) ≡ b
unfolding seal
seal_front added b l e =
    let bytes = sealed_bytes added b e in
    let past : length b ≤ 512 = omega arith in
    let two : drop 510 b ≡ at b 510 ∷ at b 511 ∷ [] =
    drop-cons b 510 0 (omega arith)
    ∙ ap (λ (t : List ℕ). at b 510 ∷ t) (drop-cons b 511 0 (omega arith) ∙ ap (λ (t : List ℕ). at b 511 ∷ t) (drop_of_length-le b past)) in
    rw (check_front added b, bytes.0, bytes.1, ← two) (take-append-drop 510 b)

-- The first eight bytes, one by one.
eight : (f : List ℕ) → 8 ≤ length f → take 8 f ≡ at f 0 ∷ at f 1 ∷ at f 2 ∷ at f 3 ∷ at f 4 ∷ at f 5 ∷ at f 6 ∷ at f 7 ∷ []
eight f l =
    first 0 7 (omega arith) (first 1 6 (omega arith) (first 2 5 (omega arith) (first 3 4 (omega arith)
    (first 4 3 (omega arith) (first 5 2 (omega arith) (first 6 1 (omega arith) (first 7 0 (omega arith) refl)))))))
  where
    first : (i n : ℕ) {r : List ℕ} → i < length f → take n (drop (suc i) f) ≡ r → take (suc n) (drop i f) ≡ at f i ∷ r
    first i n h e = ap (take (suc n)) (drop-cons f i 0 h) ∙ ap (λ (t : List ℕ). at f i ∷ t) e

header_again : (f : List ℕ) (h : Header) → Passes f h → 512 ≤ length f → header_body h ≡ take 510 (block_of f 0)
unfolding header_body
header_again f h a l =
    let p = a.letters in
    let zeros : part f 8 502 ≡ replicate 502 0 = zeros_are (part f 8 502) a.rest ∙ ap (λ (m : ℕ). replicate m 0) (length_part f 8 502 (omega arith)) in
    let whole : take 510 f ≡ take 8 f ++ part f 8 502 = take-add 8 502 f in
    rw (take-take 510 512 f (omega arith), whole, eight f (omega arith), zeros, p.f0, p.f1, p.f2, p.f3, a.header)

module _ (f : List ℕ) (h : Header) (e : check_file f ≡ Ok h) where
  facts : Passes f h
  facts = passes f h e

  -- The blocks of boxes in the file are those that n boxes take.
  pub box_blocks_lem : 1 + box_blocks (length f) ≡ blocks_for h.boxes
  box_blocks_lem = let a = facts in omega (arith, a.long, a.fits)

  body_again : (j : ℕ) → j < blocks_for h.boxes → body_of h (table_of f) j ≡ take 510 (block_of f j)
  unfolding body_of table_of
  body_again zero l = let a = facts in header_again f h a (omega (arith, a.long))
  body_again (suc j) l =
      let a = facts in
      let m = box_blocks (length f) in
      let some : j < m = omega (arith, box_blocks_lem) in
      let up : 1 + j ≡ suc j = omega arith in
      joined_piece (boxes_of f) 510 m (replicate (2040 - 510 * m) 0) j (λ i q. length_part f (512 * (1 + i)) 510 (omega (arith, a.long, box_blocks_lem))) some
      ∙ ap (λ (x : ℕ). part f (512 * x) 510) up
      ∙ sym (take-take 510 512 (drop (512 * suc j) f) (omega arith))

  block_again : (j : ℕ) → j < blocks_for h.boxes → sealed_block h (table_of f) j ≡ block_of f j
  unfolding check_rule
  block_again j l =
      let a = facts in
      let added = addend h.edition j in
      ap (seal added) (body_again j l) ∙ seal_front added (block_of f j) (length_part f (512 * j) 512 (omega (arith, a.long))) (a.checks j l)

-- The parts of a list of one size, joined, are its front.
pub joined_parts : (size : ℕ) (f : List ℕ) (m : ℕ) → joined (λ j. part f (size * j) size) m ≡ take (size * m) f
unfolding joined
joined_parts size f zero = ap (λ (k : ℕ). take k f) (sym (mul-zero size))
joined_parts size f (suc m) =
    ap (λ (x : List ℕ). x ++ part f (size * m) size) (joined_parts size f m) ∙ sym (take-add (size * m) size f) ∙ ap (λ (k : ℕ). take k f) (sym (mul-suc size m))

pub file_again : (f : List ℕ) (h : Header) → check_file f ≡ Ok h → file_of h (table_of f) ≡ f
unfolding file_of
file_again f h e =
    let a = passes f h e in
    joined_same (sealed_block h (table_of f)) (block_of f) (blocks_for h.boxes) (block_again f h e)
    ∙ joined_parts 512 f (blocks_for h.boxes)
    ∙ take_all (512 * blocks_for h.boxes) f (omega (arith, a.long))

pub reproduces_file : ReproducesFile
unfolding with_file
reproduces_file f h e = (file_again f h e, sym (passes f h e).long, back)
  where
    back : (buffer : List ℕ) → length f ≤ length buffer → (has_room h (length buffer) ≡ true) × (put_file h (table_of f) buffer ≡ f ++ drop (length f) buffer)
    back buffer room =
        let a = passes f h e in
        let fits : file_length h ≤ length buffer = omega (arith, a.long) in (
          le-leb (file_length h) (length buffer) fits,
          put_fits h (table_of f) buffer a.ranged fits ∙ rw (file_again f h e, a.long),
        )

pub reproduces_chart : ReproducesChart
reproduces_chart f h e = (ap check_file (file_again f h e) ∙ e, ap table_of (file_again f h e))

pub file_has_length : FileHasLength
unfolding file_of
file_has_length h table held long =
    let few = (in_range_lem h held).fits in
    joined_length (sealed_block h table) 512 (blocks_for h.boxes) (blocks_sized h table (blocks_for h.boxes) long (omega arith))
