-- What it says of two boxes that they copy alike, and that a copy stands at one of the 204 places.
-- is_copy_lem, alike_says; copy_below. Assumes nothing.
use Prim.Native.Nat.{ℕ, ◌<◌}
use mathlib.Core.Path.{◌≡◌, sym, ap, ◌∙◌}
use mathlib.Core.List.{List, [], ◌∷◌}
use mathlib.Core.Bool.{true, false≢true}
use native.Mathlib.Omega.{arith}
use lib.Dec.{eqb, ltb}
use lib.ListN.{length}
use borrow.Author.Tests.{eqb-true, ltb-true, ltb-false}
use Rattle.boxes.specs.Bytes.{at, box_of}
use Rattle.boxes.proofs.Bools.{and_left, and_right, every, never_false}
use Rattle.boxes.proofs.Places.{no_box}
use Rattle.rewrite.specs.Rewrite.{is_copy, copy_alike}

pub is_copy_lem : (b : List ℕ) → is_copy b ≡ true → (at b 0 ≡ 1) × (at b 2 ≡ 1)
is_copy_lem b e =
    (eqb-true (at b 0) 1 (and_left (eqb (at b 0) 1) (eqb (at b 2) 1) e), eqb-true (at b 2) 1 (and_right (eqb (at b 0) 1) (eqb (at b 2) 1) e))

-- Two boxes that copy alike.
pub record Alike (one other : List ℕ) : Type 0 where
  pub first : is_copy one ≡ true
  pub second : is_copy other ≡ true
  pub target : at one 1 ≡ at other 1
  pub next : at one 5 ≡ at other 5

pub alike_says : (one other : List ℕ) → copy_alike one other ≡ true → Alike one other
unfolding copy_alike
alike_says one other e =
    let r = every (is_copy one) (is_copy other ∷ eqb (at one 1) (at other 1) ∷ eqb (at one 5) (at other 5) ∷ []) e in
    record { first = r.0; second = r.1.0; target = eqb-true _ _ r.1.1.0; next = eqb-true _ _ r.1.1.1.0 }

pub copy_below : (t : List ℕ) → length t ≡ 2040 → (p : ℕ) → is_copy (box_of t p) ≡ true → p < 204
copy_below t long p e =
    ltb-true p 204
    (never_false (ltb p 204) (λ g. false≢true (ap is_copy (sym (no_box t p (omega (arith, ltb-false p 204 g, long)))) ∙ e)))
