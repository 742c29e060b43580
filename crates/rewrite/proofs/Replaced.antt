-- What it says of a box that it is replaced, and the box put there, as the code asks for it.
-- replaced_says; choice_put, choice_none, kept_box; boxes_sized. Assumes nothing.
use Rattle.std.proofs.Common.{◌≡◌, refl, ℕ, ◌*◌, ◌≤◌, List, [], ◌∷◌, length, Bool, true, false, not, cond, Some, None, eqb, eqb-true, arith}
use Rattle.std.proofs.lemmas.Bool.{not-true}
use Rattle.boxes.specs.Bytes.{at, box_of}
use Rattle.boxes.proofs.Bools.{every}
use Rattle.chart.proofs.Joined.{Sized}
use Rattle.chart.proofs.Lists.{length_part}
use Rattle.rewrite.specs.Rewrite.{if_true, if_false, copy_alike, is_replaced, choice_of, replaced_at, rewritten_box}
use Rattle.rewrite.specs.Reading.{choice_at}

-- A box that is replaced.
pub record IsReplaced (t b : List ℕ) : Type 0 where
  pub kind : at b 0 ≡ 2
  pub differ : eqb (at b 5) (at b 6) ≡ false
  pub alike : copy_alike (if_true t b) (if_false t b) ≡ true

pub replaced_says : (t b : List ℕ) → is_replaced t b ≡ true → IsReplaced t b
unfolding is_replaced
replaced_says t b e =
    let r = every (eqb (at b 0) 2) (not (eqb (at b 5) (at b 6)) ∷ copy_alike (if_true t b) (if_false t b) ∷ []) e in
    record { kind = eqb-true _ _ r.0; differ = not-true _ r.1.0; alike = r.1.1.0 }

-- What a test chooses, by whether it gave anything.
some_put : (x : Bool) (b c d : List ℕ) → Some c ≡ cond x (Some d) None → c ≡ cond x d b
some_put true b c d e = cc
some_put false b c d e = cc

none_put : (x : Bool) (b d : List ℕ) → None ≡ cond x (Some d) None → b ≡ cond x d b
none_put true b d e = cc
none_put false b d e = refl

module _ (t : List ℕ) (p : ℕ) where
  pub choice_put : (c : List ℕ) → Some c ≡ choice_at t p → c ≡ rewritten_box t p
  unfolding choice_at rewritten_box
  choice_put c e = some_put (replaced_at t p) (box_of t p) c _ e

  pub choice_none : None ≡ choice_at t p → box_of t p ≡ rewritten_box t p
  unfolding choice_at rewritten_box
  choice_none e = none_put (replaced_at t p) (box_of t p) _ e

  pub kept_box : replaced_at t p ≡ false → box_of t p ≡ rewritten_box t p
  unfolding rewritten_box
  kept_box e = rw e

-- The boxes of the new table have ten bytes each.
pub boxes_sized : (t : List ℕ) (count : ℕ) → length t ≡ 2040 → count ≤ 204 → Sized (rewritten_box t) 10 count
unfolding rewritten_box choice_of
boxes_sized t count long few i l = by (replaced_at t i)
  where
    by : (x : Bool) → length (cond x (choice_of (box_of t i) (if_true t (box_of t i)) (if_false t (box_of t i))) (box_of t i)) ≡ 10
    by true = refl
    by false = length_part t (10 * i) 10 (omega (arith, long))
