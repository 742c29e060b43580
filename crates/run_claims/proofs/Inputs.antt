-- The inputs in a set: none in the empty one, those of either part in a union, those of both in a
-- common part, and one alone in the set that it begins with. Assumes nothing.
use Prim.Native.Nat.{ℕ, suc, ◌+◌, ◌-◌, ◌*◌, ◌/◌, ◌%◌, ◌^◌, ◌<◌, min, max}
use mathlib.Core.Path.{◌≡◌, refl, ap, ap₂, sym, ◌∙◌}
use mathlib.Core.Bool.{Bool, true, false, cond, ◌&&◌, ◌||◌}
use native.Mathlib.Decide.{ℕ_discrete, dec_lt}
use native.Mathlib.Nat.{div-eq_of_lt, div_self, zero-div, pow-suc}
use native.Mathlib.Omega.{arith}
use lib.Bits.{bit_and, bit_or, and_shr, and_step, or_shr, or_step}
use lib.Dec.{eqb}
use lib.Pow.{pow-add, pow_pos, pow-lt, shl-shr}
use borrow.Author.Tests.{eq-eqb, ne_eqb}
use Rattle.begin.specs.Begin.{has}

pub none_has : (j : ℕ) → has 0 j ≡ false
none_has j = ne_eqb (0 / 2 ^ j % 2) 1 (λ e. omega (arith, e, zero-div (2 ^ j)))

last_bit : (x : ℕ) → x % 2 ≡ cond (eqb (x % 2) 1) 1 0
last_bit x = on (ℕ_discrete (x % 2) 1)
  where
    on : Dec (x % 2 ≡ 1) → x % 2 ≡ cond (eqb (x % 2) 1) 1 0
    on (yes e) = e ∙ rw (eq-eqb (x % 2) 1 e)
    on (no n) = rw (ne_eqb (x % 2) 1 n) (omega arith)

-- An operation on numbers that goes bit by bit joins the bits as its table says; a union and a
-- common part are two.
module _ (op last : ℕ → ℕ → ℕ) (step : (x y : ℕ) → op x y ≡ op (x / 2) (y / 2) * 2 + last (x % 2) (y % 2))
    (down : (x y k : ℕ) → op x y / 2 ^ k ≡ op (x / 2 ^ k) (y / 2 ^ k)) (join : Bool → Bool → Bool)
    (both : eqb (last 1 1 % 2) 1 ≡ join true true) (left : eqb (last 1 0 % 2) 1 ≡ join true false)
    (right : eqb (last 0 1 % 2) 1 ≡ join false true) (neither : eqb (last 0 0 % 2) 1 ≡ join false false) where
  table : (p q : Bool) → eqb (last (cond p 1 0) (cond q 1 0) % 2) 1 ≡ join p q
  table true true = both
  table true false = left
  table false true = right
  table false false = neither

  join_has : (a b j : ℕ) → has (op a b) j ≡ join (has a j) (has b j)
  join_has a b j =
      let x = a / 2 ^ j in
      let y = b / 2 ^ j in
      let end : op x y % 2 ≡ last (x % 2) (y % 2) % 2 = omega (arith, step x y) in
      ap (λ (z : ℕ). eqb (z % 2) 1) (down a b j)
      ∙ ap (λ (z : ℕ). eqb z 1) end
      ∙ ap₂ (λ (z w : ℕ). eqb (last z w % 2) 1) (last_bit x) (last_bit y)
      ∙ table (eqb (x % 2) 1) (eqb (y % 2) 1)

pub or_has : (a b j : ℕ) → has (bit_or a b) j ≡ (has a j || has b j)
or_has = join_has bit_or max or_step or_shr ◌||◌ refl refl refl refl

pub and_has : (a b j : ℕ) → has (bit_and a b) j ≡ (has a j && has b j)
and_has = join_has bit_and min and_step and_shr ◌&&◌ refl refl refl refl

pub alone_has : (i j : ℕ) → has (2 ^ i) j ≡ eqb i j
alone_has i j = on (dec_lt i j) (dec_lt j i)
  where
    on : Dec (i < j) → Dec (j < i) → has (2 ^ i) j ≡ eqb i j
    on (yes l) d =
        let none : 2 ^ i / 2 ^ j ≡ 0 = div-eq_of_lt (pow-lt l) in
        rw none (sym (ne_eqb i j (λ e. omega arith)))
    on (no n) (yes l) =
        let k = i - j - 1 in
        let is : suc k + j ≡ i = omega arith in
        let whole : 2 ^ i / 2 ^ j ≡ 2 ^ suc k =
        ap (λ (x : ℕ). 2 ^ x / 2 ^ j) (sym is) ∙ ap (λ (x : ℕ). x / 2 ^ j) (pow-add 2 (suc k) j) ∙ shl-shr (2 ^ suc k) j in
        let even : 2 ^ i / 2 ^ j % 2 ≡ 1 → ⊥ = λ e. omega (arith, whole, pow-suc 2 k) in
        ne_eqb _ _ even ∙ sym (ne_eqb i j (λ e. omega arith))
    on (no n) (no m) =
        let same : i ≡ j = omega arith in
        let one : 2 ^ i / 2 ^ j ≡ 1 = ap (λ (x : ℕ). 2 ^ x / 2 ^ j) same ∙ div_self (pow_pos j) in
        rw one (sym (eq-eqb i j same))
