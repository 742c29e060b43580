-- A rewritten table. Its boxes are joined, so place p has the box that it gets by itself. A kept
-- box keeps the rules that it kept; a choice keeps its own because the decision and the two copies
-- that it is made of kept theirs; a place past the boxes is zero, so no decision, and stays. The
-- new table has the old one's copies, so what is judged on it is judged as on the old one, and
-- nothing is left to replace. Assumes nothing.
use Prim.Native.Nat.{ℕ, ◌≤◌, ◌<◌}
use mathlib.Core.Path.{◌≡◌, refl, ap, sym, subst, ◌∙◌}
use mathlib.Core.List.{List, [], ◌∷◌}
use mathlib.Core.Bool.{Bool, true, false}
use native.Mathlib.Decide.{dec_lt}
use native.Mathlib.Omega.{arith}
use lib.Dec.{ltb, leb}
use lib.ListN.{length}
use lib.Seq.{take_all}
use borrow.Author.Tests.{eqb-true, eqb-false, ltb-true, eq-eqb, ne_eqb}
use Rattle.boxes.specs.Bytes.{at, all_zero, box_of}
use Rattle.boxes.specs.Box.{readable, has_kind, operand_rule, decision_rule, choice_rule, well_formed}
use Rattle.boxes.proofs.Bools.{and_left, never_true}
use Rattle.boxes.proofs.Formed.{formed_assignment, formed_decision, formed_choice}
use Rattle.boxes.proofs.Places.{no_box}
use Rattle.format.specs.File.{box_rule}
use Rattle.format.specs.declared.Header.{Header}
use Rattle.format.proofs.Ranges as header
use Rattle.chart.proofs.Joined.{joined_length, joined_same}
use Rattle.rewrite.specs.Rewrite.{if_true, if_false, is_copy, copy_alike, is_replaced, choice_of, replaced_at, rewritten_box, rewritten}
use Rattle.rewrite.proofs.Copies.{is_copy_lem, alike_says}
use Rattle.rewrite.proofs.Replaced.{replaced_says, kept_box, boxes_sized}
use Rattle.rewrite.proofs.Halfway.{SameCopies, judged_same, all_rewritten, box_before, copies_kept}
use Rattle.chart_claims.specs.Claims.{Ruled}
use Rattle.chart_claims.specs.Rewritten.{RewrittenIsRuled, RewrittenByPlaces, Copying, BetweenCopies, RewrittenExactly, RewrittenOnce}
use Rattle.chart_claims.proofs.RoundTrip.{joined_parts}
use Rattle.chart_claims.proofs.Rules.{length_formed, assignment_says, decision_says}

pub rewritten_by_places : RewrittenByPlaces
rewritten_by_places t long p l = ap (λ (x : List ℕ). box_of x p) (sym (all_rewritten t long)) ∙ box_before t 204 long (omega arith) p l

-- What a place gets that is replaced.
abbrev choice_at : List ℕ → ℕ → List ℕ
choice_at t p = let b = box_of t p in choice_of b (if_true t b) (if_false t b)

module _ (t : List ℕ) (long : length t ≡ 2040) where
  rewritten_long : length (rewritten t) ≡ 2040
  unfolding rewritten
  rewritten_long = joined_length (rewritten_box t) 10 204 (boxes_sized t 204 long (omega arith))

  module _ (p : ℕ) (l : p < 204) where
    box_kept : replaced_at t p ≡ false → box_of (rewritten t) p ≡ box_of t p
    box_kept e = rewritten_by_places t long p l ∙ sym (kept_box t p e)

    box_replaced : replaced_at t p ≡ true → box_of (rewritten t) p ≡ choice_at t p
    unfolding rewritten_box
    box_replaced e = rewritten_by_places t long p l ∙ rw e

  same_copies : SameCopies t (rewritten t)
  same_copies = subst (SameCopies t) (all_rewritten t long) (copies_kept t 204 long (omega arith))

  none_left : (p : ℕ) → p < 204 → replaced_at (rewritten t) p ≡ false
  unfolding is_replaced choice_of
  none_left p l = by (replaced_at t p) refl
    where
      by : (x : Bool) → replaced_at t p ≡ x → replaced_at (rewritten t) p ≡ false
      by true e = ap (is_replaced (rewritten t)) (box_replaced p l e)
      by false e = ap (is_replaced (rewritten t)) (box_kept p l e) ∙ judged_same t (rewritten t) same_copies (box_of t p) ∙ e

pub rewritten_once : RewrittenOnce
unfolding rewritten
rewritten_once t long =
    joined_same (rewritten_box (rewritten t)) (box_of (rewritten t)) 204 (λ p l. sym (kept_box (rewritten t) p (none_left t long p l)))
    ∙ joined_parts 10 (rewritten t) 204
    ∙ take_all 2040 (rewritten t) (omega (arith, rewritten_long t long))

-- A box is replaced exactly where it is a decision between two copies.
copying_says : (b : List ℕ) (target next : ℕ) → is_copy b ≡ true → at b 1 ≡ target → at b 5 ≡ next → Copying b target next (at b 3)
copying_says b target next e t n =
    record {
      kind = (is_copy_lem b e).0;
      operation = (is_copy_lem b e).1;
      stores = t;
      goes = n;
      reads = refl;
    }

replaced_between : (t b : List ℕ) → is_replaced t b ≡ true
    → BetweenCopies t b (at (if_true t b) 1) (at (if_true t b) 5) (at (if_true t b) 3) (at (if_false t b) 3)
replaced_between t b e =
    let s = replaced_says t b e in
    let a = alike_says _ _ s.alike in
    record {
      decision = s.kind;
      different = eqb-false _ _ s.differ;
      if_true = copying_says (if_true t b) _ _ a.first refl refl;
      if_false = copying_says (if_false t b) _ _ a.second (sym a.target) (sym a.next);
    }

between_replaced : (t b : List ℕ) (target next one other : ℕ) → BetweenCopies t b target next one other → is_replaced t b ≡ true
unfolding is_replaced copy_alike
between_replaced t b target next one other k =
    let x = k.if_true in
    let y = k.if_false in
    rw (
      k.decision,
      ne_eqb _ _ k.different,
      x.kind,
      x.operation,
      y.kind,
      y.operation,
      x.stores,
      y.stores,
      x.goes,
      y.goes,
      eq-eqb target target refl,
      eq-eqb next next refl,
    )
    refl

pub rewritten_exactly : RewrittenExactly
unfolding choice_of
rewritten_exactly t long p l =
    record {
      replaced =
          λ target next one other k. box_replaced t long p l (between_replaced t (box_of t p) target next one other k)
          ∙ rw (k.if_true.stores, k.if_true.goes, k.if_true.reads, k.if_false.reads);
      others = λ none. box_kept t long p l (never_true _ (λ e. none _ _ _ _ (replaced_between t (box_of t p) e)));
    }

zero_first : (b : List ℕ) → all_zero b ≡ true → at b 0 ≡ 0
unfolding all_zero
zero_first [] e = refl
zero_first (x ∷ b) e = eqb-true x 0 (and_left _ _ e)

module _ (edition k n : ℕ) where
  -- What a copy that obeys the rules gives to a choice.
  record Copy (b : List ℕ) : Type 0 where
    low : leb 16 (at b 1) ≡ true
    high : leb (at b 1) 31 ≡ true
    source : readable k (at b 3) ≡ true
    next : ltb (at b 5) n ≡ true

  copy_says : (b : List ℕ) → well_formed edition k n b ≡ true → is_copy b ≡ true → Copy b
  unfolding operand_rule
  copy_says b e c =
      let is = is_copy_lem b c in
      let r = assignment_says edition k n b (formed_assignment edition k n b (length_formed edition k n b e) is.0 ∙ e) in
      record { low = r.1.0; high = r.1.1.0; source = rw is.1 at r.1.1.1.1.0; next = r.1.1.1.1.1.1.0 }

  choice_formed : (b one other : List ℕ) → edition ≡ 2 → decision_rule k n b ≡ true → Copy one → Copy other
      → well_formed edition k n (choice_of b one other) ≡ true
  unfolding choice_rule choice_of all_zero
  choice_formed b one other two e c d =
      let has : has_kind edition 4 ≡ true = ap (λ (x : ℕ). has_kind x 4) two in
      let r = decision_says k n b e in
      sym (formed_choice edition k n (choice_of b one other) refl (λ i. omega arith) (λ i. omega arith) (λ i. omega arith))
      ∙ rw (has, c.low, c.high, r.1.1.0, r.1.1.1.0, r.1.1.1.1.0, c.next, c.source, d.source)

module _ (h : Header) (t : List ℕ) (rules : Ruled h t) (two : h.edition ≡ 2) where
  copy_at : (p : ℕ) → ltb p h.boxes ≡ true → is_copy (box_of t p) ≡ true → Copy h.edition h.inputs h.boxes (box_of t p)
  copy_at p l c = copy_says h.edition h.inputs h.boxes (box_of t p) (rules.formed p (ltb-true p h.boxes l)) c

  replaced_formed : (p : ℕ) → p < h.boxes → replaced_at t p ≡ true → box_rule h (choice_at t p) ≡ true
  replaced_formed p l e =
      let edition = h.edition in
      let k = h.inputs in
      let n = h.boxes in
      let b = box_of t p in
      let held = rules.formed p l in
      let s = replaced_says t b e in
      let a = alike_says _ _ s.alike in
      let decides : decision_rule k n b ≡ true = formed_decision edition k n b (length_formed edition k n b held) s.kind ∙ held in
      let r = decision_says k n b decides in
      choice_formed edition k n b (if_true t b) (if_false t b) two decides
      (copy_at (at b 5) r.1.1.1.1.1.0 a.first)
      (copy_at (at b 6) r.1.1.1.1.1.1.0 a.second)

  still_formed : (p : ℕ) → p < h.boxes → box_rule h (box_of (rewritten t) p) ≡ true
  still_formed p l = by (replaced_at t p) refl
    where
      below : p < 204
      below = omega (arith, (header.in_range_lem h rules.ranged).fits)

      by : (x : Bool) → replaced_at t p ≡ x → box_rule h (box_of (rewritten t) p) ≡ true
      by true e = rw (box_replaced t rules.long p below e) (replaced_formed p l e)
      by false e = rw (box_kept t rules.long p below e) (rules.formed p l)

  still_zero : (p : ℕ) → h.boxes ≤ p → all_zero (box_of (rewritten t) p) ≡ true
  unfolding all_zero
  still_zero p l = on (dec_lt p 204)
    where
      on : Dec (p < 204) → all_zero (box_of (rewritten t) p) ≡ true
      on (yes below) =
          let none = zero_first (box_of t p) (rules.zero p l) in
          let kept = never_true (replaced_at t p) (λ e. omega (arith, (replaced_says t (box_of t p) e).kind)) in
          rw (box_kept t rules.long p below kept) (rules.zero p l)
      on (no past) = rw (no_box (rewritten t) p (omega (arith, rewritten_long t rules.long))) refl

pub rewritten_is_ruled : RewrittenIsRuled
rewritten_is_ruled h t rules two =
    record {
      edition = rules.edition;
      ranged = rules.ranged;
      long = rewritten_long t rules.long;
      formed = still_formed h t rules two;
      zero = still_zero h t rules two;
    }
