-- Laws that several proofs here share: constructors told apart, a branch on one test on both sides,
-- a store at one place of lists that go together. clash; cond_both; set_each. Assumes nothing.
use Prim.Native.Nat.{ℕ, ◌≤◌, ◌<◌}
use mathlib.Core.Path.{◌≡◌}
use mathlib.Core.List.{List}
use mathlib.Core.Bool.{Bool, true, false, cond}
use native.Mathlib.Decide.{ℕ_discrete, dec_lt}
use native.Mathlib.Omega.{arith}
use lib.ListN.{length, get_or, set}
use lib.Seq.{get_or-set_same, get_or-set_other, set_out}

-- `clash cc` closes a goal where two constructors have been joined.
pub clash {ℓ} : {A : Type ℓ} → ◌≡◌ {A = ℕ} 0 1 → A
clash e = absurd (omega arith)

pub cond_both : {A : Type 0} (R : A → A → Type 0) {a a' c c' : A} (b : Bool) → R a a' → R c c' → R (cond b a c) (cond b a' c')
cond_both R true p q = p
cond_both R false p q = q

pub set_each : (P : ℕ → ℕ → ℕ → Type 0) (xs ys zs : List ℕ) → length ys ≡ length xs → length zs ≡ length xs
    → ((j : ℕ) → P (get_or xs j 0) (get_or ys j 0) (get_or zs j 0))
    → (t x y z : ℕ)
    → P x y z
    → (j : ℕ)
    → P (get_or (set xs t x) j 0) (get_or (set ys t y) j 0) (get_or (set zs t z) j 0)
set_each P xs ys zs ly lz f t x y z p j = on (ℕ_discrete j t) (dec_lt t (length xs))
  where
    on : Dec (j ≡ t) → Dec (t < length xs) → P (get_or (set xs t x) j 0) (get_or (set ys t y) j 0) (get_or (set zs t z) j 0)
    on (yes e) (yes l) =
        let my : t < length ys = omega arith in
        let mz : t < length zs = omega arith in
        rw (e, get_or-set_same xs t x 0, get_or-set_same ys t y 0, get_or-set_same zs t z 0) p
    on (yes e) (no l) =
        let mx : length xs ≤ t = omega arith in
        let my : length ys ≤ t = omega arith in
        let mz : length zs ≤ t = omega arith in
        rw (set_out xs t x, set_out ys t y, set_out zs t z) (f j)
    on (no ne) d = rw (get_or-set_other xs t j x 0 ne, get_or-set_other ys t j y 0 ne, get_or-set_other zs t j z 0 ne) (f j)
