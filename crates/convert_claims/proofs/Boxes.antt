-- The boxes that an edition takes as they stand in the other: they obey the box rules of both, and
-- do the same in both. Assumes nothing.
use Prim.Native.Nat.{ℕ, zero, suc, ◌≤◌}
use mathlib.Core.Path.{◌≡◌, refl, ap, ap₂, sym, ◌∙◌, fun_ext}
use mathlib.Core.List.{List, [], ◌∷◌}
use mathlib.Core.Logic.{◌⊎◌, inl, inr, ⊎_elim}
use mathlib.Core.Bool.{Bool, true, false, cond, not, ◌&&◌, ◌||◌, false≢true}
use native.Mathlib.Omega.{arith}
use lib.Dec.{eqb, leb}
use lib.ListN.{replicate}
use borrow.Author.Tests.{eqb-true, eqb-false, leb-true, not-false}
use Rattle.boxes.specs.Bytes.{at, all_zero}
use Rattle.boxes.specs.Box.{has_kind, operand_rule, assignment_rule, decision_rule, halt_rule, choice_rule, well_formed}
use Rattle.boxes.proofs.Bools.{and_left, and_right, or_cases}
use Rattle.format.specs.File.{is_edition}
use Rattle.format.specs.declared.Header.{Header}
use Rattle.chart_claims.proofs.Rules.{formed_says}
use Rattle.convert.specs.Convert.{other_than, is_operation, takes}
use Rattle.decode.specs.Decode.{little_endian, decode, assigns, meaning}
use Rattle.decode.specs.declared.FlowBox.TheVariants.{Assign, Decide, Halt, Choose}
use Rattle.run_claims.proofs.Editions.{others_alike, boxes_alike}
use Rattle.convert_claims.specs.Conversions.{Untaken, operation, kind, KindsOfBoxes}

-- The two editions, in one order or the other.
abbrev pub Editions : (edition other : ℕ) → Type 0
Editions edition other = ((edition ≡ 1) × (other ≡ 2)) ⊎ ((edition ≡ 2) × (other ≡ 1))

pub other_is : (edition : ℕ) → is_edition edition ≡ true → Editions edition (other_than edition)
other_is edition e =
    ⊎_elim
    (λ one. let is = eqb-true edition 1 one in inl (is, rw is refl))
    (λ two. let is = eqb-true edition 2 two in inr (is, rw is refl))
    (or_cases (eqb edition 1) (eqb edition 2) e)

-- What holds of 1 and 2 and of 2 and 1 holds of an edition and the other.
in_either : (P : ℕ → ℕ → Type 0) → P 1 2 → P 2 1 → {edition other : ℕ} → Editions edition other → P edition other
in_either P one two (inl e) = rw (e.0, e.1) one
in_either P one two (inr e) = rw (e.0, e.1) two

pub other_again : (edition : ℕ) → is_edition edition ≡ true → (other_than (other_than edition) ≡ edition) × (is_edition (other_than edition) ≡ true)
other_again edition e =
    in_either (λ x y. (other_than y ≡ x) × (is_edition y ≡ true)) (refl, refl) (refl, refl) (other_is edition e)

-- What a box that is taken is not.
neither : (a b c : Bool) → not (a || b || c) ≡ true → (a ≡ false) × (b ≡ false) × (c ≡ false)
neither true b c e = absurd (false≢true e)
neither false true c e = absurd (false≢true e)
neither false false true e = absurd (false≢true e)
neither false false false e = (refl, refl, refl)

-- An assignment of another operation does the same in both editions, and so does a box of another
-- kind.
assigned_alike : (target op left right next constant : ℕ) → (op ≡ 2 → ⊥) → (op ≡ 3 → ⊥) → (op ≡ 11 → ⊥)
    → meaning 2 (Assign target op left right next constant) ≡ meaning 1 (Assign target op left right next constant)
unfolding meaning
assigned_alike target op left right next constant two three eleven =
    ap₂ (λ (reads : List ℕ) (gives : List ℕ → ℕ). assigns target reads gives next)
    (others_alike.0 op left right eleven) (fun_ext (λ read. others_alike.1 op constant read two three))

unassigned_alike : (decides chooses : Bool) (a b c d e f g h i j k l : ℕ)
    → let x = cond decides (Decide a b c d e) (cond chooses (Choose f g h i j k l) Halt) in meaning 2 x ≡ meaning 1 x
unfolding meaning
unassigned_alike true chooses a b c d e f g h i j k l = refl
unassigned_alike false true a b c d e f g h i j k l = refl
unassigned_alike false false a b c d e f g h i j k l = refl

-- A box that obeys the rules of an edition is of a kind that it has.
kind_of : (edition k n : ℕ) (b : List ℕ) → well_formed edition k n b ≡ true → has_kind edition (at b 0) ≡ true
kind_of edition k n b e = (formed_says edition k n b e).1.0

module _ (edition : ℕ) (b : List ℕ) (taken : takes edition b ≡ true) where
  operations : (is_operation b 2 ≡ false) × (is_operation b 3 ≡ false) × (is_operation b 11 ≡ false)
  unfolding takes
  operations = neither (is_operation b 2) (is_operation b 3) (is_operation b 11) (and_right (has_kind edition (at b 0)) _ taken)

  -- A box of the one edition that the other takes is not of kind 4, which edition 1 lacks.
  no_choice : (k n : ℕ) {e : ℕ} → Editions e edition → well_formed e k n b ≡ true → at b 0 ≡ 4 → ⊥
  unfolding takes
  no_choice k n (inl is) formed four = false≢true (sym (boxes_alike.1 k n b four) ∙ (rw is.0 at formed))
  no_choice k n (inr is) formed four = false≢true (rw (is.1, four) at (and_left (has_kind edition (at b 0)) _ taken))

  pub formed_alike : (k n : ℕ) {e : ℕ} → Editions e edition → well_formed e k n b ≡ true → well_formed edition k n b ≡ true
  formed_alike k n both formed =
      let no : (at b 0 ≡ 1) × (at b 2 ≡ 11) → ⊥ = λ q. false≢true (sym operations.2 ∙ rw (q.0, q.1) refl) in
      let same = boxes_alike.0 k n b no (no_choice k n both formed) in
      in_either (λ x y. well_formed x k n b ≡ true → well_formed y k n b ≡ true) (λ f. same ∙ f) (λ f. sym same ∙ f) both formed

  not_of : (op : ℕ) → is_operation b op ≡ false → eqb (at b 0) 1 ≡ true → at b 2 ≡ op → ⊥
  not_of op e first = eqb-false (at b 2) op (rw first at e)

  meant : meaning 2 (decode b) ≡ meaning 1 (decode b)
  unfolding decode
  meant = by (eqb (at b 0) 1) refl
    where
      by : (first : Bool) → eqb (at b 0) 1 ≡ first → meaning 2 (decode b) ≡ meaning 1 (decode b)
      by true e =
          rw e
          (assigned_alike (at b 1) (at b 2) (at b 3) (at b 4) (at b 5) (little_endian (at b 6) (at b 7) (at b 8) (at b 9))
          (not_of 2 operations.0 e) (not_of 3 operations.1 e) (not_of 11 operations.2 e))
      by false e =
          rw e
          (unassigned_alike (eqb (at b 0) 2) (eqb (at b 0) 4) (at b 2) (at b 3) (at b 4) (at b 5) (at b 6) (at b 1) (at b 2) (at b 3) (at b 4) (at b 5) (at b 6)
          (at b 7))

  pub meant_alike : {e e' : ℕ} → Editions e e' → meaning e' (decode b) ≡ meaning e (decode b)
  meant_alike = in_either (λ e e'. meaning e' (decode b) ≡ meaning e (decode b)) meant (sym meant)

-- A box that obeys the rules of an edition and that the other takes is taken by the first as well.
pub taken_back : (edition other k n : ℕ) (b : List ℕ) → well_formed edition k n b ≡ true → takes other b ≡ true → takes edition b ≡ true
unfolding takes
taken_back edition other k n b formed taken = rw (kind_of edition k n b formed) (and_right (has_kind other (at b 0)) _ taken)

-- Of each kind there is a box that breaks no rule: 31 is constant 0, 16 equal 16, halt, and 31 is
-- 16 either way, of a chart of one box.
kind_has : (edition first : ℕ) → is_edition edition ≡ true → has_kind edition first ≡ true
    → (k : ℕ) × (n : ℕ) × (b : List ℕ) × (at b 0 ≡ first) × (well_formed edition k n b ≡ true)
unfolding well_formed assignment_rule decision_rule halt_rule choice_rule operand_rule all_zero
kind_has edition first e has =
    ⊎_elim
    (λ either. on first (leb-true 1 first (and_left (leb 1 first) (leb first 3) either)) (leb-true first 3 (and_right (leb 1 first) (leb first 3) either)))
    (λ second.
    let four = eqb-true first 4 (and_left (eqb first 4) (eqb edition 2) second) in
    let two = eqb-true edition 2 (and_right (eqb first 4) (eqb edition 2) second) in
    (0, 1, 4 ∷ 31 ∷ 0 ∷ 16 ∷ 16 ∷ 0 ∷ 16 ∷ 16 ∷ 0 ∷ 0 ∷ [], sym four, rw two refl))
    (or_cases (leb 1 first && leb first 3) (eqb first 4 && eqb edition 2) has)
  where
    on : (first : ℕ) → 1 ≤ first → first ≤ 3 → (k : ℕ) × (n : ℕ) × (b : List ℕ) × (at b 0 ≡ first) × (well_formed edition k n b ≡ true)
    on zero l m = absurd (omega arith)
    on (suc zero) l m = (0, 1, 1 ∷ 31 ∷ replicate 8 0, refl, refl)
    on (suc (suc zero)) l m = (0, 1, 2 ∷ 0 ∷ 0 ∷ 16 ∷ 16 ∷ replicate 5 0, refl, refl)
    on (suc (suc (suc zero))) l m = (0, 1, 3 ∷ replicate 9 0, refl, refl)
    on (suc (suc (suc (suc n)))) l m = absurd (omega arith)

pub kinds_of_boxes : KindsOfBoxes
kinds_of_boxes = (kind_of, kind_has)

-- A box is not taken exactly where 14 speaks of it.
module _ (h : Header) (b : List ℕ) (edition : is_edition h.edition ≡ true) where
  pub untaken_fails : Untaken h b → takes (other_than h.edition) b ≡ false
  unfolding takes
  untaken_fails (operation first (inl op)) = rw (first, op) refl
  untaken_fails (operation first (inr (inl op))) = rw (first, op) refl
  untaken_fails (operation first (inr (inr op))) = rw (first, op) refl
  untaken_fails (kind (inl lacks)) = let other = ap (λ (e : ℕ). has_kind (other_than e) (at b 0)) lacks.0 ∙ lacks.1 in rw other refl
  untaken_fails (kind (inr lacks)) = let other = ap (λ (e : ℕ). has_kind (other_than e) (at b 0)) lacks.0 ∙ lacks.1 in rw other refl

  operates : (op : ℕ) → is_operation b op ≡ true → (at b 0 ≡ 1) × (at b 2 ≡ op)
  operates op e =
      (eqb-true (at b 0) 1 (and_left (eqb (at b 0) 1) (eqb (at b 2) op) e), eqb-true (at b 2) op (and_right (eqb (at b 0) 1) (eqb (at b 2) op) e))

  pub fails_untaken : takes (other_than h.edition) b ≡ false → Untaken h b
  unfolding takes
  fails_untaken e = by (has_kind (other_than h.edition) (at b 0)) refl e
    where
      of : (is_operation b 2 || is_operation b 3 || is_operation b 11) ≡ true → Untaken h b
      of any =
          ⊎_elim
          (λ two-three. ⊎_elim
          (λ two. let is = operates 2 two in operation is.0 (inl is.1))
          (λ three. let is = operates 3 three in operation is.0 (inr (inl is.1)))
          (or_cases (is_operation b 2) (is_operation b 3) two-three))
          (λ eleven. let is = operates 11 eleven in operation is.0 (inr (inr is.1)))
          (or_cases (is_operation b 2 || is_operation b 3) (is_operation b 11) any)

      by : (has : Bool) → has_kind (other_than h.edition) (at b 0) ≡ has
          → (has && not (is_operation b 2 || is_operation b 3 || is_operation b 11)) ≡ false
          → Untaken h b
      by true k q = of (not-false _ q)
      by false k q =
          kind
          (⊎_elim
          (λ is. inl (is.0, ap (λ (e : ℕ). has_kind e (at b 0)) (sym is.1) ∙ k))
          (λ is. inr (is.0, ap (λ (e : ℕ). has_kind e (at b 0)) (sym is.1) ∙ k))
          (other_is h.edition edition))
