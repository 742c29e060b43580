-- The boxes of a loaded table obey the box rules. Place p of the file is box p of the table, since
-- the table's pieces are the file's blocks of boxes; the file's checks say that place p breaks no
-- rule; and the rules, kind by kind, say what is in range. Assumes nothing.
use Rattle.std.specs.Prelude.{Ok, Err}
use Prim.Native.Nat.{ℕ, ◌+◌, ◌*◌, ◌-◌, ◌/◌, ◌%◌, ◌≤◌, ◌<◌}
use mathlib.Core.Path.{◌≡◌, ap, sym, ◌∙◌}
use mathlib.Core.List.{List, [], ◌∷◌}
use mathlib.Core.Bool.{Bool, true, false, ◌||◌, ◌&&◌}
use mathlib.Core.Logic.{⊎_elim}
use native.Mathlib.Decide.{dec_lt}
use native.Mathlib.Omega.{arith}
use lib.Dec.{eqb, ltb, leb}
use lib.ListN.{length, replicate, length-append, length-replicate}
use borrow.Author.Tests.{eqb-true, ltb-true, leb-true, lt-ltb, le-ltb}
use Rattle.boxes.specs.Bytes.{at, part, all_zero, box_of}
use Rattle.boxes.specs.Box.{readable, reads_left, reads_right, has_kind, operand_rule, assignment_rule, decision_rule, halt_rule, choice_rule, well_formed}
use Rattle.format.specs.File.{blocks_for, place_start, place_of, box_rule, place_rule, check_file}
use Rattle.format.specs.declared.Header.{Header}
use Rattle.boxes.proofs.Bools.{and_left, and_right, or_cases, Every, every}
use Rattle.format.proofs.Passes.{passes}
use Rattle.chart.specs.Chart.{joined, box_blocks, boxes_of, table_of}
use Rattle.chart_claims.specs.Claims.{ObeysRules, ShowsTheBox, BoxInRange, assignment, decision, halt, choice, StaysInRange}
use Rattle.chart.proofs.Lists.{length_part, part_part, part_zeros}
use Rattle.chart.proofs.Joined.{Sized, joined_length, joined_piece}
use Rattle.chart_claims.proofs.RoundTrip.{box_blocks_lem}
use Rattle.chart.proofs.Shows.{shows_box}

module _ (f : List ℕ) (h : Header) (e : check_file f ≡ Ok h) where
  boxes_sized : (m : ℕ) → m ≤ box_blocks (length f) → Sized (boxes_of f) 510 m
  boxes_sized m l i q = let a = passes f h e in length_part f (512 * (1 + i)) 510 (omega (arith, a.long, box_blocks_lem f h e))

  length_boxes : (m : ℕ) → m ≤ box_blocks (length f) → length (joined (boxes_of f) m) ≡ 510 * m
  length_boxes m l = joined_length (boxes_of f) 510 m (boxes_sized m l)

  -- Place p of the file is box p of the table.
  box_is_place : (p : ℕ) → p < 51 * (blocks_for h.boxes - 1) → box_of (table_of f) p ≡ place_of f p
  unfolding table_of
  box_is_place p l =
      let m = box_blocks (length f) in
      let q = p / 51 in
      let o = 10 * (p % 51) in
      let blocks = box_blocks_lem f h e in
      let there : 10 * p ≡ 510 * q + o = omega arith in
      let here : 512 * (1 + q) + o ≡ place_start p = omega arith in
      let piece = joined_piece (boxes_of f) 510 m (replicate (2040 - 510 * m) 0) q (boxes_sized m (omega arith)) (omega (arith, blocks)) in
      ap (λ (x : ℕ). part (table_of f) x 10) there
      ∙ sym (part_part (table_of f) (510 * q) 510 o 10 (omega arith))
      ∙ ap (λ (x : List ℕ). part x o 10) piece
      ∙ part_part f (512 * (1 + q)) 510 o 10 (omega arith)
      ∙ ap (λ (x : ℕ). part f x 10) here

  pub obeys : (p : ℕ) → p < h.boxes → box_rule h (box_of (table_of f) p) ≡ true
  unfolding place_rule
  obeys p l =
      let a = passes f h e in
      let within : p < 51 * (blocks_for h.boxes - 1) = omega (arith, a.some) in
      let holds = rw (lt-ltb p h.boxes l) at (a.places p within) in
      ap (box_rule h) (box_is_place p within) ∙ holds

  pub zeros_past : (p : ℕ) → h.boxes ≤ p → all_zero (box_of (table_of f) p) ≡ true
  unfolding place_rule table_of
  zeros_past p l = on (dec_lt p (51 * (blocks_for h.boxes - 1)))
    where
      on : Dec (p < 51 * (blocks_for h.boxes - 1)) → all_zero (box_of (table_of f) p) ≡ true
      on (yes within) =
          let a = passes f h e in
          let holds = rw (le-ltb p h.boxes l) at (a.places p within) in
          ap all_zero (box_is_place p within) ∙ holds
      on (no past) =
          let m = box_blocks (length f) in
          let blocks = box_blocks_lem f h e in
          let long = length_boxes m (omega arith) in
          part_zeros (joined (boxes_of f) m) (2040 - 510 * m) (10 * p) 10 (omega (arith, long, blocks))

  table_long : length (table_of f) ≡ 2040
  unfolding table_of
  table_long =
      let m = box_blocks (length f) in
      let blocks = box_blocks_lem f h e in
      let long = length_boxes m (omega arith) in
      length-append (joined (boxes_of f) m) (replicate (2040 - 510 * m) 0) ∙ omega (arith, long, length-replicate {A = ℕ} (2040 - 510 * m) 0)

pub obeys_rules : ObeysRules
obeys_rules f h e =
    let a = passes f h e in
    record { edition = a.edition; ranged = a.ranged; long = table_long f h e; formed = obeys f h e; zero = zeros_past f h e }

-- What the rules say of every box, part by part.
pub formed_says : (edition k n : ℕ) (b : List ℕ) → well_formed edition k n b ≡ true
    → Every
    (eqb (length b) 10
    ∷ has_kind edition (at b 0)
    ∷ (assignment_rule edition k n b || decision_rule k n b || halt_rule b || choice_rule k n b)
    ∷ [])
unfolding well_formed
formed_says edition k n b e = every _ (_ ∷ _ ∷ []) e

pub length_formed : (edition k n : ℕ) (b : List ℕ) → well_formed edition k n b ≡ true → length b ≡ 10
length_formed edition k n b e = eqb-true (length b) 10 (formed_says edition k n b e).0

pub shows_the_box : ShowsTheBox
shows_the_box f h p e l =
    let a = passes f h e in
    let place = box_is_place f h e p (omega (arith, a.some)) in
    let ten = length_formed h.edition h.inputs h.boxes (box_of (table_of f) p) (obeys f h e p l) in
    rw (shows_box f p h e l) (ap length (sym place) ∙ ten, sym place)

-- The rules, kind by kind.
readable_below : (k v : ℕ) → k ≤ 16 → readable k v ≡ true → v < 32
readable_below k v h e =
    ⊎_elim
    (λ input. let l = ltb-true v k input in omega arith)
    (λ variable. let l = leb-true v 31 (and_right (leb 16 v) (leb v 31) variable) in omega arith)
    (or_cases (ltb v k) (leb 16 v && leb v 31) e)

operand_below : (k : ℕ) (reads : Bool) (v : ℕ) → k ≤ 16 → operand_rule k reads v ≡ true → v < 32
unfolding operand_rule
operand_below k true v h e = readable_below k v h e
operand_below k false v h e = let z = eqb-true v 0 e in omega arith

-- What the rules of each kind say, part by part.
pub assignment_says : (edition k n : ℕ) (b : List ℕ) → assignment_rule edition k n b ≡ true
    → Every
    (eqb (at b 0) 1
    ∷ leb 16 (at b 1)
    ∷ leb (at b 1) 31
    ∷ leb (at b 2) 11
    ∷ operand_rule k (reads_left (at b 2)) (at b 3)
    ∷ operand_rule k (reads_right edition (at b 2)) (at b 4)
    ∷ ltb (at b 5) n
    ∷ (eqb (at b 2) 0 || all_zero (part b 6 4))
    ∷ [])
unfolding assignment_rule
assignment_says edition k n b e = every _ (_ ∷ _ ∷ _ ∷ _ ∷ _ ∷ _ ∷ _ ∷ []) e

pub decision_says : (k n : ℕ) (b : List ℕ) → decision_rule k n b ≡ true
    → Every
    (eqb (at b 0) 2
    ∷ eqb (at b 1) 0
    ∷ leb (at b 2) 2
    ∷ readable k (at b 3)
    ∷ readable k (at b 4)
    ∷ ltb (at b 5) n
    ∷ ltb (at b 6) n
    ∷ all_zero (part b 7 3)
    ∷ [])
unfolding decision_rule
decision_says k n b e = every _ (_ ∷ _ ∷ _ ∷ _ ∷ _ ∷ _ ∷ _ ∷ []) e

pub halt_says : (b : List ℕ) → halt_rule b ≡ true → at b 0 ≡ 3
unfolding halt_rule
halt_says b e = eqb-true (at b 0) 3 (and_left (eqb (at b 0) 3) (all_zero (part b 1 9)) e)

pub choice_says : (k n : ℕ) (b : List ℕ) → choice_rule k n b ≡ true
    → Every
    (eqb (at b 0) 4
    ∷ leb 16 (at b 1)
    ∷ leb (at b 1) 31
    ∷ leb (at b 2) 2
    ∷ readable k (at b 3)
    ∷ readable k (at b 4)
    ∷ ltb (at b 5) n
    ∷ readable k (at b 6)
    ∷ readable k (at b 7)
    ∷ all_zero (part b 8 2)
    ∷ [])
unfolding choice_rule
choice_says k n b e = every _ (_ ∷ _ ∷ _ ∷ _ ∷ _ ∷ _ ∷ _ ∷ _ ∷ _ ∷ []) e

-- A box that obeys the rules obeys those of its kind.
pub by_kind : (edition k n : ℕ) (b : List ℕ) (P : Type 0)
    → (assignment_rule edition k n b ≡ true → P)
    → (decision_rule k n b ≡ true → P)
    → (halt_rule b ≡ true → P)
    → (choice_rule k n b ≡ true → P)
    → well_formed edition k n b ≡ true
    → P
by_kind edition k n b P assigns decides halts chooses e =
    ⊎_elim
    (λ d. ⊎_elim (λ d'. ⊎_elim assigns decides (or_cases _ _ d')) halts (or_cases _ _ d))
    chooses
    (or_cases _ _ (formed_says edition k n b e).1.1.0)

module _ (edition k n : ℕ) (b : List ℕ) (few : k ≤ 16) where
  in_range_assign : assignment_rule edition k n b ≡ true → BoxInRange edition n b
  in_range_assign e =
      let r = assignment_says edition k n b e in
      assignment
      (eqb-true (at b 0) 1 r.0)
      (leb-true 16 (at b 1) r.1.0)
      (let l = leb-true (at b 1) 31 r.1.1.0 in omega arith)
      (leb-true (at b 2) 11 r.1.1.1.0)
      (operand_below k (reads_left (at b 2)) (at b 3) few r.1.1.1.1.0)
      (operand_below k (reads_right edition (at b 2)) (at b 4) few r.1.1.1.1.1.0)
      (ltb-true (at b 5) n r.1.1.1.1.1.1.0)

  in_range_decide : decision_rule k n b ≡ true → BoxInRange edition n b
  in_range_decide e =
      let r = decision_says k n b e in
      decision
      (eqb-true (at b 0) 2 r.0)
      (leb-true (at b 2) 2 r.1.1.0)
      (readable_below k (at b 3) few r.1.1.1.0)
      (readable_below k (at b 4) few r.1.1.1.1.0)
      (ltb-true (at b 5) n r.1.1.1.1.1.0)
      (ltb-true (at b 6) n r.1.1.1.1.1.1.0)

  in_range_halt : halt_rule b ≡ true → BoxInRange edition n b
  in_range_halt e = halt (halt_says b e)

  in_range_choose : has_kind edition (at b 0) ≡ true → choice_rule k n b ≡ true → BoxInRange edition n b
  in_range_choose has e =
      let r = choice_says k n b e in
      let four = eqb-true (at b 0) 4 r.0 in
      choice
      (eqb-true edition 2 (rw four at has))
      four
      (leb-true 16 (at b 1) r.1.0)
      (let l = leb-true (at b 1) 31 r.1.1.0 in omega arith)
      (leb-true (at b 2) 2 r.1.1.1.0)
      (readable_below k (at b 3) few r.1.1.1.1.0)
      (readable_below k (at b 4) few r.1.1.1.1.1.0)
      (ltb-true (at b 5) n r.1.1.1.1.1.1.0)
      (readable_below k (at b 6) few r.1.1.1.1.1.1.1.0)
      (readable_below k (at b 7) few r.1.1.1.1.1.1.1.1.0)

  pub in_range_lem : well_formed edition k n b ≡ true → BoxInRange edition n b
  in_range_lem e =
      by_kind edition k n b (BoxInRange edition n b) in_range_assign in_range_decide in_range_halt (in_range_choose (formed_says edition k n b e).1.0) e

pub stays_in_range : StaysInRange
stays_in_range f h e =
    let a = passes f h e in
    let edition : (1 ≤ h.edition) × (h.edition ≤ 2) =
    ⊎_elim
    (λ one. let is = eqb-true h.edition 1 one in omega arith)
    (λ two. let is = eqb-true h.edition 2 two in omega arith)
    (or_cases (eqb h.edition 1) (eqb h.edition 2) a.edition) in (
      record { edition = edition; few = a.few; some = a.some; fits = a.fits; start = a.start },
      λ p l. in_range_lem h.edition h.inputs h.boxes (box_of (table_of f) p) a.few (obeys f h e p l),
    )
