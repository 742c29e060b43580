-- What box_from gives at byte i of a table: it decodes the ten bytes from
-- there on (`read`), by the kind that stands there. Of the 204 places box_at decodes the place's
-- ten bytes (`box_here`), and past them it is a halt (`box_past`). By which halves the box of a
-- number is found (`Finds`): by five times the number, or the lesser of it and 204. Assumes nothing.
use Prim.Native.Nat.{ℕ, ◌+◌, ◌*◌, ◌≤◌, ◌<◌, min}
use mathlib.Core.Path.{◌≡◌, refl, ap, sym, ◌∙◌}
use mathlib.Core.List.{List, [], ◌∷◌}
use mathlib.Core.Bool.{Bool, true, false}
use native.Mathlib.Nat.{add-zero}
use native.Mathlib.Omega.{arith}
use lib.Dec.{leb}
use borrow.Author.Tests.{le-leb, lt-leb, leb-true, leb-false, ne_eqb}
use Rattle.std.specs.Int.{w32, from_le_bytes}
use Rattle.boxes.specs.Bytes.{at, part, box_of}
use Rattle.boxes.proofs.Places.{part_byte}
use Rattle.decode.specs.Decode.{little_endian, decode, box_from, box_at}
use Rattle.decode.specs.declared.FlowBox.TheVariants.{Assign, Decide, Halt, Choose}

module _ (t : List ℕ) (i : ℕ) (h : i ≤ 2030) where
  byte : (k : ℕ) → k < 10 → at (part t i 10) k ≡ at t (i + k)
  byte k l = part_byte t i 10 k l

  kind : at (part t i 10) 0 ≡ at t i
  kind = byte 0 (omega arith) ∙ ap (at t) (add-zero i)

  read : box_from t i
      ≡ decode (at t i ∷ at t (i + 1) ∷ at t (i + 2) ∷ at t (i + 3) ∷ at t (i + 4) ∷ at t (i + 5) ∷ at t (i + 6) ∷ at t (i + 7) ∷ at t (i + 8) ∷ at t (i + 9) ∷ [])
  unfolding box_from decode
  read =
      rw (
        lt-leb 2031 i (omega arith),
        kind,
        byte 1 (omega arith),
        byte 2 (omega arith),
        byte 3 (omega arith),
        byte 4 (omega arith),
        byte 5 (omega arith),
        byte 6 (omega arith),
        byte 7 (omega arith),
        byte 8 (omega arith),
        byte 9 (omega arith),
      )

  pub assign_at : (k : ℕ)
      → at t i ≡ 1
      → k ≡ from_le_bytes w32 (at t (i + 6) ∷ at t (i + 7) ∷ at t (i + 8) ∷ at t (i + 9) ∷ [])
      → Assign (at t (i + 1)) (at t (i + 2)) (at t (i + 3)) (at t (i + 4)) (at t (i + 5)) k
      ≡ box_from t i
  unfolding decode
  assign_at k e w =
      let v : k ≡ little_endian (at t (i + 6)) (at t (i + 7)) (at t (i + 8)) (at t (i + 9)) = omega arith in
      rw (read, e, v)

  pub decide_at : at t i ≡ 2
      → Decide (at t (i + 2)) (at t (i + 3)) (at t (i + 4)) (at t (i + 5)) (at t (i + 6)) ≡ box_from t i
  unfolding decode
  decide_at e = rw (read, e)

  pub choose_at : at t i ≡ 4
      → Choose (at t (i + 1)) (at t (i + 2)) (at t (i + 3)) (at t (i + 4)) (at t (i + 5)) (at t (i + 6)) (at t (i + 7)) ≡ box_from t i
  unfolding decode
  choose_at e = rw (read, e)

  pub halt_at : (at t i ≡ 1 → ⊥) → (at t i ≡ 2 → ⊥) → (at t i ≡ 4 → ⊥) → Halt ≡ box_from t i
  unfolding decode
  halt_at one two four = rw (read, ne_eqb _ _ one, ne_eqb _ _ two, ne_eqb _ _ four)

pub from_past : (t : List ℕ) (i : ℕ) → 2030 < i → Halt ≡ box_from t i
unfolding box_from
from_past t i h = rw (le-leb 2031 i h)

-- What `box_at` of the code takes by.
pub ruleset decoded = (from_past, assign_at, decide_at, choose_at, halt_at)

pub box_here : (t : List ℕ) (p : ℕ) → p < 204 → box_at t p ≡ decode (box_of t p)
unfolding box_from
box_here t p h = rw (lt-leb 2031 (10 * p) (omega arith))

pub box_past : (t : List ℕ) (p : ℕ) → 204 ≤ p → box_at t p ≡ Halt
unfolding box_from
box_past t p h = rw (le-leb 2031 (10 * p) (omega arith))

-- A half by which the box of number p is found, in every table.
abbrev pub Finds : (half p : ℕ) → Type 0
Finds half p = (t : List ℕ) → box_from t (2 * half) ≡ box_at t p

pub half_finds : (half p : ℕ) → half ≡ 5 * p → Finds half p
half_finds half p e t = ap (box_from t) (omega arith)

pub first_half_finds : (half p : ℕ) → half ≡ 5 * min p 204 → Finds half p
first_half_finds half p e t = by (leb 204 p) refl
  where
    by : (b : Bool) → leb 204 p ≡ b → box_from t (2 * half) ≡ box_at t p
    by true d =
        let past = leb-true 204 p d in
        sym (from_past t (2 * half) (omega arith)) ∙ sym (box_past t p past)
    by false d =
        let below = leb-false 204 p d in
        ap (box_from t) (omega arith)
