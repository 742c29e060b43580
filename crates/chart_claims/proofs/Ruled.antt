-- A chart that obeys the rules has a file that load accepts, and that file's chart is it. Block j
-- of the file is the j-th block that was joined, so its front is the header's, its checks hold, its
-- places are the boxes of the table, and what the blocks leave of the table is zeros. Assumes
-- nothing.
use Rattle.std.specs.Prelude.{Ok, Err}
use Prim.Native.Nat.{ℕ, zero, suc, ◌+◌, ◌*◌, ◌-◌, ◌/◌, ◌%◌, ◌≤◌, ◌<◌}
use mathlib.Core.Path.{◌≡◌, refl, ap, sym, ◌∙◌}
use mathlib.Core.List.{List, [], append-nil}
use mathlib.Core.Bool.{true, cond, ◌&&◌}
use native.Mathlib.Decide.{dec_lt}
use native.Mathlib.Omega.{arith}
use lib.Dec.{ltb}
use lib.ListN.{length, take, drop, replicate, take-append-drop, drop_of_length-le, replicate-append-replicate}
use lib.Seq.{get_or-take, take_at, drop-drop}
use borrow.Author.Tests.{lt-ltb, le-ltb}
use Rattle.boxes.specs.Bytes.{at, part, all_zero, box_of}
use Rattle.boxes.proofs.Zeros.{zeros_are}
use Rattle.block.specs.Block.{seal}
use Rattle.block.proofs.Seals.{seal_seals}
use Rattle.format.specs.File.{addend, blocks_of, block_of, header_of, blocks_for, place_start, place_of, length_rule, check_rule, letters_rule, in_range, header_rule, box_rule, place_rule, check_file}
use Rattle.format.specs.declared.Header.{Header}
use Rattle.format.proofs.Ranges.{in_range_lem}
use Rattle.format.proofs.Search.{none_fails}
use Rattle.format.proofs.Checks.{Past, tells_chart}
use Rattle.chart.specs.Chart.{joined, box_blocks, boxes_of, table_of, header_body, body_of, sealed_block, file_of}
use Rattle.chart_claims.specs.Claims.{Ruled, RuledIsLoaded}
use Rattle.chart.proofs.Lists.{length_part, part_part}
use Rattle.chart.proofs.Joined.{joined_same, joined_piece}
use Rattle.chart.proofs.Blocks.{length_body, blocks_sized, body_later}
use Rattle.chart_claims.proofs.RoundTrip.{joined_parts, file_has_length}

-- The length of a file of 2 to 5 blocks.
length_holds : (blocks : ℕ) → 2 ≤ blocks → blocks ≤ 5 → length_rule (512 * blocks) ≡ true
length_holds zero l m = absurd (omega arith)
length_holds (suc zero) l m = absurd (omega arith)
length_holds (suc (suc zero)) l m = refl
length_holds (suc (suc (suc zero))) l m = refl
length_holds (suc (suc (suc (suc zero)))) l m = refl
length_holds (suc (suc (suc (suc (suc zero))))) l m = refl
length_holds (suc (suc (suc (suc (suc (suc n)))))) l m = absurd (omega arith)

-- A table whose boxes are 0 from box p on is zeros from there on.
zero_boxes : (table : List ℕ) (count p : ℕ) → length table ≡ 10 * (p + count) → ((q : ℕ) → p ≤ q → all_zero (box_of table q) ≡ true)
    → drop (10 * p) table ≡ replicate (10 * count) 0
zero_boxes table zero p long zeros = let past : length table ≤ 10 * p = omega arith in drop_of_length-le table past
zero_boxes table (suc count) p long zeros =
    let here : box_of table p ≡ replicate 10 0 =
    zeros_are (box_of table p) (zeros p (omega arith)) ∙ ap (λ (m : ℕ). replicate m 0) (length_part table (10 * p) 10 (omega arith)) in
    let next : 10 * p + 10 ≡ 10 * (p + 1) = omega arith in
    let rest : drop 10 (drop (10 * p) table) ≡ replicate (10 * count) 0 =
    drop-drop 10 (10 * p) table ∙ ap (λ (m : ℕ). drop m table) next ∙ zero_boxes table count (p + 1) (omega arith) (λ q l. zeros q (omega arith)) in
    let more : 10 * suc count ≡ 10 + 10 * count = omega arith in
    sym (take-append-drop 10 (drop (10 * p) table)) ∙ rw (here, rest) (replicate-append-replicate 10 (10 * count) 0 ∙ ap (λ (m : ℕ). replicate m 0) (sym more))

module _ (h : Header) (table : List ℕ) (rules : Ruled h table) where
  abbrev file : List ℕ
  file = file_of h table

  abbrev blocks : ℕ
  blocks = blocks_for h.boxes

  few : (2 ≤ blocks) × (blocks ≤ 5)
  few = let s = in_range_lem h rules.ranged in (omega (arith, s.some), omega (arith, s.fits))

  long : length file ≡ 512 * blocks
  long = file_has_length h table rules.ranged rules.long

  counts : blocks_of file ≡ blocks
  counts = omega (arith, long)

  block_is : (j : ℕ) → j < blocks → block_of file j ≡ sealed_block h table j
  unfolding file_of
  block_is j l =
      ap (λ (f : List ℕ). block_of f j) (sym (append-nil file))
      ∙ joined_piece (sealed_block h table) 512 blocks [] j (blocks_sized h table blocks rules.long few.1) l

  -- Bytes 0 to 509 of block j, and a part of them.
  body_is : (j : ℕ) → j < blocks → part file (512 * j) 510 ≡ body_of h table j
  unfolding seal
  body_is j l =
      let here : 512 * j + 0 ≡ 512 * j = omega arith in
      ap (λ (x : ℕ). part file x 510) (sym here)
      ∙ sym (part_part file (512 * j) 512 0 510 (omega arith))
      ∙ ap (take 510) (block_is j l)
      ∙ take_at (body_of h table j) _ 510 (length_body h table j rules.long (omega (arith, few)))

  front_is : take 510 file ≡ header_body h
  unfolding body_of
  front_is = body_is 0 (omega (arith, few))

  byte_is : (i : ℕ) → i < 510 → at file i ≡ at (header_body h) i
  byte_is i l = sym (get_or-take 510 file i 0 l) ∙ ap (λ (b : List ℕ). at b i) front_is

  header_is : header_of file ≡ h
  unfolding header_body
  header_is = rw (byte_is 4 (omega arith), byte_is 5 (omega arith), byte_is 6 (omega arith), byte_is 7 (omega arith)) refl

  letters : letters_rule file ≡ true
  unfolding header_body
  letters =
      rw (byte_is 0 (omega arith), byte_is 1 (omega arith), byte_is 2 (omega arith), byte_is 3 (omega arith), byte_is 4 (omega arith)) rules.edition

  rest : part file 8 502 ≡ replicate 502 0
  unfolding header_body
  rest = sym (part_part file 0 510 8 502 (omega arith)) ∙ ap (λ (b : List ℕ). part b 8 502) front_is

  header_holds : header_rule file ≡ true
  unfolding header_rule all_zero
  header_holds = ap (λ (k : Header). in_range k && all_zero (part file 8 502)) header_is ∙ rw (rules.ranged, rest) refl

  check_holds : (j : ℕ) → j < blocks_of file → check_rule file (header_of file) j ≡ true
  unfolding check_rule
  check_holds j l =
      let within : j < blocks = omega (arith, counts) in
      ap (λ (k : Header). check_rule file k j) header_is
      ∙ rw (block_is j within) (seal_seals (addend h.edition j) (body_of h table j) (length_body h table j rules.long (omega (arith, few))))

  boxes_is : (j : ℕ) → 1 + j < blocks → boxes_of file j ≡ part table (510 * j) 510
  boxes_is j l =
      let back : 1 + j - 1 ≡ j = omega arith in
      body_is (1 + j) l ∙ sym (body_later h table (1 + j) (λ e. omega arith)) ∙ ap (λ (x : ℕ). part table (510 * x) 510) back

  place_is : (p : ℕ) → p < 51 * (blocks - 1) → place_of file p ≡ box_of table p
  place_is p l =
      let q = p / 51 in
      let o = 10 * (p % 51) in
      let there : 510 * q + o ≡ 10 * p = omega arith in
      let here : 512 * (1 + q) + o ≡ place_start p = omega arith in
      ap (λ (x : ℕ). part file x 10) (sym here)
      ∙ sym (part_part file (512 * (1 + q)) 510 o 10 (omega arith))
      ∙ ap (λ (x : List ℕ). part x o 10) (boxes_is q (omega arith))
      ∙ part_part table (510 * q) 510 o 10 (omega arith)
      ∙ ap (λ (x : ℕ). part table x 10) there

  place_holds : (p : ℕ) → p < 51 * (blocks_of file - 1) → place_rule file (header_of file) p ≡ true
  unfolding place_rule
  place_holds p l = ap (λ (k : Header). place_rule file k p) header_is ∙ rw (place_is p (omega (arith, counts))) (on (dec_lt p h.boxes))
    where
      on : Dec (p < h.boxes) → cond (ltb p h.boxes) (box_rule h (box_of table p)) (all_zero (box_of table p)) ≡ true
      on (yes below) = rw (lt-ltb p h.boxes below) (rules.formed p below)
      on (no past) = rw (le-ltb p h.boxes (omega arith)) (rules.zero p (omega arith))

  accepts : check_file file ≡ Ok h
  accepts =
      let past : Past file =
      record {
        one = ap length_rule long ∙ length_holds blocks few.0 few.1;
        two = omega (arith, none_fails (check_rule file (header_of file)) (blocks_of file) check_holds);
        three = letters;
        four = header_holds;
      } in
      let sized : blocks_of file ≡ blocks_for (header_of file).boxes = counts ∙ ap (λ (k : Header). blocks_for k.boxes) (sym header_is) in
      sym (tells_chart file past sized (omega (arith, none_fails (place_rule file (header_of file)) (51 * (blocks_of file - 1)) place_holds))) ∙ ap Ok header_is

  table_again : table_of file ≡ table
  unfolding table_of
  table_again =
      let m = blocks - 1 in
      let all : box_blocks (length file) ≡ m = omega (arith, long, few) in
      let boxes : joined (boxes_of file) m ≡ take (510 * m) table =
      joined_same (boxes_of file) (λ j. part table (510 * j) 510) m (λ j l. boxes_is j (omega arith)) ∙ joined_parts 510 table m in
      let left : 10 * (51 * m) ≡ 510 * m = omega arith in
      let size : 10 * (204 - 51 * m) ≡ 2040 - 510 * m = omega arith in
      let zeros : drop (510 * m) table ≡ replicate (2040 - 510 * m) 0 =
      ap (λ (x : ℕ). drop x table) (sym left)
      ∙ zero_boxes table (204 - 51 * m) (51 * m) (rules.long ∙ omega (arith, few)) (λ q l. rules.zero q (omega (arith, (in_range_lem h rules.ranged).some)))
      ∙ ap (λ (x : ℕ). replicate x 0) size in
      rw (all, boxes, ← zeros) (take-append-drop (510 * m) table)

pub ruled_is_loaded : RuledIsLoaded
ruled_is_loaded h table rules = (accepts h table rules, table_again h table rules)
