-- A table rewritten in its own place, from the front. A box of it is the old one, or it was a
-- decision and is a choice: a copy in neither table. What is asked of other boxes is whether they
-- are copies, and then their bytes, so judging on such a table is judging on the old one.
-- judged_same, same_place; copy_kept, box_before, box_after, copies_kept, place_more,
-- all_rewritten; store_box, leave_box. Assumes nothing.
use Prim.Native.Nat.{ℕ, ◌+◌, ◌*◌, ◌-◌, ◌≤◌, ◌<◌}
use mathlib.Core.Path.{◌≡◌, refl, ap, sym, ◌∙◌}
use mathlib.Core.List.{List, [], ◌++◌, append_assoc, append-nil}
use mathlib.Core.Bool.{Bool, true, false, cond, false≢true}
use mathlib.Core.Logic.{◌⊎◌, inl, inr}
use native.Mathlib.Decide.{dec_lt}
use native.Mathlib.Omega.{arith}
use lib.ListN.{length, take, drop, take-append-drop, drop_of_length-le}
use lib.Seq.{take_at, drop_at, drop-drop}
use borrow.Rule.Slice.PartMut.{put_mid}
use Rattle.boxes.specs.Bytes.{at, box_of}
use Rattle.boxes.proofs.Bools.{never_true}
use Rattle.chart.specs.Chart.{joined}
use Rattle.chart.proofs.Joined.{joined_more, joined_length, joined_piece}
use Rattle.rewrite.specs.Rewrite.{if_true, if_false, is_copy, copy_alike, is_replaced, choice_of, replaced_at, rewritten_box, rewritten}
use Rattle.rewrite.proofs.Copies.{is_copy_lem, alike_says}
use Rattle.rewrite.proofs.Replaced.{replaced_says, kept_box, boxes_sized}

-- The same box, or a copy neither before nor after.
abbrev pub SameCopy : (before after : List ℕ) → Type 0
SameCopy before after = (after ≡ before) ⊎ ((is_copy before ≡ false) × (is_copy after ≡ false))

abbrev pub SameCopies : (old new : List ℕ) → Type 0
SameCopies old new = (i : ℕ) → SameCopy (box_of old i) (box_of new i)

no_first : (one other : List ℕ) → is_copy one ≡ false → copy_alike one other ≡ false
no_first one other n = never_true _ (λ e. false≢true (sym n ∙ (alike_says one other e).first))

no_second : (one other : List ℕ) → is_copy other ≡ false → copy_alike one other ≡ false
no_second one other n = never_true _ (λ e. false≢true (sym n ∙ (alike_says one other e).second))

judged_alike : (a b c d : List ℕ) → SameCopy a b → SameCopy c d → copy_alike b d ≡ copy_alike a c
judged_alike a b c d (inr n) s = no_first b d n.1 ∙ sym (no_first a c n.0)
judged_alike a b c d (inl e) (inr n) = no_second b d n.1 ∙ sym (no_second a c n.0)
judged_alike a b c d (inl e) (inl q) = cc

copy_same : (a b : List ℕ) → SameCopy a b → is_copy a ≡ true → b ≡ a
copy_same a b (inl e) c = e
copy_same a b (inr n) c = absurd (false≢true (sym n.0 ∙ c))

-- What a place gets that has box b.
abbrev gets : (table b : List ℕ) → List ℕ
gets table b = cond (is_replaced table b) (choice_of b (if_true table b) (if_false table b)) b

module _ (old new : List ℕ) (same : SameCopies old new) where
  pub judged_same : (b : List ℕ) → is_replaced new b ≡ is_replaced old b
  unfolding is_replaced
  judged_same b = rw (judged_alike _ _ _ _ (same (at b 5)) (same (at b 6)))

  gets_same : (b : List ℕ) → gets new b ≡ gets old b
  gets_same b = by (is_replaced old b) refl
    where
      by : (x : Bool) → is_replaced old b ≡ x → gets new b ≡ gets old b
      by true e =
          let a = alike_says _ _ (replaced_says old b e).alike in
          let one = copy_same _ _ (same (at b 5)) a.first in
          let other = copy_same _ _ (same (at b 6)) a.second in
          rw (judged_same b, one, other)
      by false e = rw (judged_same b, e)

  pub same_place : (p : ℕ) → box_of new p ≡ box_of old p → rewritten_box new p ≡ rewritten_box old p
  unfolding rewritten_box
  same_place p e = ap (gets new) e ∙ gets_same (box_of old p)

-- A box is replaced by what is no copy, as it was none.
pub copy_kept : (t : List ℕ) (p : ℕ) → SameCopy (box_of t p) (rewritten_box t p)
unfolding rewritten_box choice_of
copy_kept t p = by (replaced_at t p) refl
  where
    by : (x : Bool) → replaced_at t p ≡ x → SameCopy (box_of t p) (rewritten_box t p)
    by false e = inl (sym (kept_box t p e))
    by true e =
        let two = (replaced_says t (box_of t p) e).kind in
        inr (never_true _ (λ c. omega (arith, (is_copy_lem (box_of t p) c).0)), rw e refl)

-- The new boxes before p, and then the old table.
abbrev pub halfway : (old : List ℕ) → ℕ → List ℕ
halfway old p = joined (rewritten_box old) p ++ drop (10 * p) old

module _ (old : List ℕ) (p : ℕ) (long : length old ≡ 2040) (few : p ≤ 204) where
  abbrev half : List ℕ
  half = halfway old p

  done_long : length (joined (rewritten_box old) p) ≡ 10 * p
  done_long = joined_length (rewritten_box old) 10 p (boxes_sized old p long few)

  pub box_before : (i : ℕ) → i < p → box_of half i ≡ rewritten_box old i
  box_before i l = joined_piece (rewritten_box old) 10 p (drop (10 * p) old) i (boxes_sized old p long few) l

  drop_half : (k : ℕ) → drop (10 * p + k) half ≡ drop (10 * p + k) old
  drop_half k =
      sym (drop-drop k (10 * p) half) ∙ ap (drop k) (drop_at (joined (rewritten_box old) p) (drop (10 * p) old) (10 * p) done_long) ∙ drop-drop k (10 * p) old

  pub box_after : (i : ℕ) → p ≤ i → box_of half i ≡ box_of old i
  box_after i l =
      let far : 10 * p + 10 * (i - p) ≡ 10 * i = omega arith in
      ap (take 10) (rw far at (drop_half (10 * (i - p))))

  pub copies_kept : SameCopies old half
  copies_kept i = on (dec_lt i p)
    where
      on : Dec (i < p) → SameCopy (box_of old i) (box_of half i)
      on (yes l) = rw (box_before i l) (copy_kept old i)
      on (no l) = inl (box_after i (omega arith))

  -- The next place, judged on the table as it is by then.
  pub place_more : take (10 * p) half ++ (rewritten_box half p ++ drop (10 * p + 10) half) ≡ halfway old (p + 1)
  place_more =
      let up : 10 * p + 10 ≡ 10 * (p + 1) = omega arith in
      let here = same_place old half copies_kept p (box_after p (omega arith)) in
      rw (take_at (joined (rewritten_box old) p) (drop (10 * p) old) (10 * p) done_long, here, drop_half 10, up, joined_more (rewritten_box old) p, append_assoc)

-- The whole way.
pub all_rewritten : (old : List ℕ) → length old ≡ 2040 → halfway old 204 ≡ rewritten old
unfolding rewritten
all_rewritten old long =
    let none : drop 2040 old ≡ [] = drop_of_length-le old {i = 2040} (omega (arith, long)) in
    ap (λ (r : List ℕ). joined (rewritten_box old) 204 ++ r) none ∙ append-nil _

-- Ten bytes of a table, lent from a on, came back as a box.
pub store_box : (t b s : List ℕ) (a k : ℕ) → k ≡ 10 → s ≡ b → put_mid a k t s ≡ take a t ++ (b ++ drop (a + 10) t)
store_box t b s a k l e = rw (e, l, drop-drop)

-- A table with the box of a place as it was.
pub leave_box : (t : List ℕ) (p : ℕ) → t ≡ take (10 * p) t ++ (box_of t p ++ drop (10 * p + 10) t)
leave_box t p =
    sym (take-append-drop (10 * p) t)
    ∙ ap (λ (r : List ℕ). take (10 * p) t ++ r) (sym (take-append-drop 10 (drop (10 * p) t)) ∙ ap (λ (r : List ℕ). box_of t p ++ r) (drop-drop 10 (10 * p) t))
