-- Laws of the marks: a union is no mark exactly where each of its parts is none, `marked` tells
-- which mark is one, and a rule by the mode has what its entries have; and the arithmetic that sets
-- a mark is the rule of its mode. mode_one; or_none, or_zeros; union_none; marked_none,
-- none_marked, marked_or; by_mode_lem, by_map; set_surveillance, set_high_water, set_by_mode;
-- set_sixteen. Assumes nothing.
use Prim.Native.Nat.{ℕ, ◌^◌, ◌<◌}
use mathlib.Core.Path.{◌≡◌, refl, sym, ◌∙◌}
use mathlib.Core.List.{List, ◌∷◌}
use mathlib.Core.Bool.{Bool, true, false, cond, ◌||◌}
use native.Mathlib.Omega.{arith}
use lib.Bits.{bit_and, bit_or, or_add_and, or_comm, or_zero_l, or_zero_r, and_le_l, and_le_r, or_lt, and_mask, and_zero_r}
use lib.Dec.{eqb}
use borrow.Author.Tests.{eqb-true, eq-eqb, not-false}
use Rattle.marks.specs.declared.Mode.TheVariants.{Bare, Surveillance, HighWater}
use Rattle.marks.specs.Marks.{Mode, bare, surveillance, high_water, mode_in, mode_of, marked, union, by_mode, target_mark, set_mark, masks_of, set_by}

-- Number 1 alone is surveillance.
pub mode_one : (n : ℕ) → mode_of n ≡ surveillance → n ≡ 1
mode_one n e = on (eqb n 0) (eqb n 1) refl e
  where
    on : (b c : Bool) → eqb n 1 ≡ c → mode_in (cond b Bare (cond c Surveillance HighWater)) ≡ surveillance → n ≡ 1
    on true c f d = let z : ◌≡◌ {A = ℕ} 0 1 = cc in absurd (omega arith)
    on false true f d = eqb-true n 1 f
    on false false f d = let z : ◌≡◌ {A = ℕ} 0 1 = cc in absurd (omega arith)

pub or_none : (a b : ℕ) → bit_or a b ≡ 0 → (a ≡ 0) × (b ≡ 0)
or_none a b h = (omega (arith, or_add_and a b, and_le_r a b), omega (arith, or_add_and a b, and_le_l a b))

pub or_zeros : (a b : ℕ) → a ≡ 0 → b ≡ 0 → bit_or a b ≡ 0
or_zeros a b ea eb = omega (arith, or_add_and a b)

pub union_none : (m : ℕ) (ms : List ℕ) → union (m ∷ ms) ≡ 0 → (m ≡ 0) × (union ms ≡ 0)
unfolding union
union_none m ms h = or_none m (union ms) h

pub marked_none : (m : ℕ) → marked m ≡ false → m ≡ 0
marked_none m e = eqb-true m 0 (not-false _ e)

pub none_marked : (m : ℕ) → m ≡ 0 → marked m ≡ false
none_marked m e = rw (eq-eqb m 0 e)

pub marked_or : (a b : ℕ) → marked (bit_or a b) ≡ (marked a || marked b)
marked_or a b = on (marked a) refl (marked (bit_or a b)) refl
  where
    on : (x : Bool) → marked a ≡ x → (y : Bool) → marked (bit_or a b) ≡ y → y ≡ (x || marked b)
    on true e true f = refl
    on true e false f = sym (none_marked a (or_none a b (marked_none _ f)).0) ∙ e
    on false e y f = sym f ∙ rw (marked_none a e, or_zero_l)

-- What holds of each entry of a rule by the mode, in its mode, holds of the rule; and a rule seen
-- through a function is the rule of what is seen.
pub by_mode_lem : (P : Mode → ℕ → Type 0) (m : Mode) (a b c : ℕ) → P bare a → P surveillance b → P high_water c → P m (by_mode m a b c)
by_mode_lem P bare a b c x y z = x
by_mode_lem P surveillance a b c x y z = y
by_mode_lem P high_water a b c x y z = z

pub by_map : {A : Type 0} (f : ℕ → A) (m : Mode) (a b c : ℕ) → f (by_mode m a b c) ≡ by_mode m (f a) (f b) (f c)
by_map f m a b c = by_mode_lem (λ k x. f x ≡ by_mode k (f a) (f b) (f c)) m a b c refl refl refl

-- A set of 16 inputs and all 16 is the set.
and_all : (set : ℕ) → set < 2 ^ 16 → bit_and set 65535 ≡ set
and_all set l = omega (arith, and_mask set 16)

-- The arithmetic by a mode's number is the rule of the mode, and so in every mode by both of its
-- masks.
pub set_surveillance : (before read : ℕ) → set_mark 0 before read ≡ target_mark surveillance before read
set_surveillance before read = rw (and_zero_r, or_zero_r)

pub set_high_water : (before read : ℕ) → before < 2 ^ 16 → set_mark 65535 before read ≡ target_mark high_water before read
set_high_water before read b = rw (and_all before b, or_comm read before)

pub set_by_mode : (m : Mode) (before read : ℕ) → before < 2 ^ 16 → read < 2 ^ 16 → set_by (masks_of m) before read ≡ target_mark m before read
set_by_mode bare before read b r = rw (and_zero_r, or_zero_l, and_all before b)
set_by_mode surveillance before read b r = rw (and_all read r) (set_surveillance before read)
set_by_mode high_water before read b r = rw (and_all read r) (set_high_water before read b)

-- By the masks of a mode a mark is of 16 inputs, whatever is read.
pub set_sixteen : (m : Mode) (before read : ℕ) → set_by (masks_of m) before read < 2 ^ 16
set_sixteen m before read =
    let keep : (masks_of m).keep < 2 ^ 16 = by_mode_lem (λ k x. x < 2 ^ 16) m 65535 0 65535 (omega arith) (omega arith) (omega arith) in
    let take : (masks_of m).take < 2 ^ 16 = by_mode_lem (λ k x. x < 2 ^ 16) m 0 65535 65535 (omega arith) (omega arith) (omega arith) in
    or_lt 16 (bit_and read (masks_of m).take) (bit_and before (masks_of m).keep) (omega (arith, and_le_r read (masks_of m).take)) (omega (arith, and_le_r before (masks_of m).keep))
