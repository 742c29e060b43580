-- The number that a part is, by what is left of the part: `number_on` goes on from the value of the
-- digits so far. How it goes at a digit, at another byte, past 32 bits and at the end. Assumes
-- nothing.
use Rattle.std.proofs.Common.{◌≡◌, ℕ, ◌+◌, ◌*◌, ◌-◌, ◌<◌, ◌≤◌, List, [], ◌∷◌, true, false, cond, ◌&&◌, leb, length, slice_index, Option, Some, None, refl, sym, ◌∙◌, le_trans, arith, le-leb, lt-ltb, eq-eqb, ne_eqb, drop}
use Rattle.std.proofs.lemmas.Bool.{lt-leb}
use Rattle.std.proofs.lemmas.List.{at_drop_more, at_drop_all}
use Rattle.std.proofs.Math.Bool.{and-true, and-false}
use Rattle.std.specs.Char.{is_ascii_digit}
use Rattle.std.specs.Str.{all_ascii_digits}
use Rattle.line.specs.Parsing.{number_from, number_of, extra_zero, is_number}

-- The number of a part, if it is one.
abbrev pub read : List ℕ → Option ℕ
read p = cond (is_number p) (Some (number_of p)) None

abbrev pub number_on : ℕ → List ℕ → Option ℕ
number_on v bytes = cond (all_ascii_digits bytes && leb (number_from v bytes) 4294967295) (Some (number_from v bytes)) None

-- Digits never make a number smaller.
grows : (v : ℕ) (bytes : List ℕ) → v ≤ number_from v bytes
unfolding number_from
grows v [] = omega arith
grows v (b ∷ bytes) = le_trans (more v b) (grows (10 * v + (b - 48)) bytes)
  where
    more : (v b : ℕ) → v ≤ 10 * v + (b - 48)
    more v b = omega arith

-- A part that is empty, or has an extra leading zero, is no number.
pub no_byte : (p : List ℕ) → length p < 1 → None ≡ read p
unfolding is_number
no_byte [] l = refl
no_byte (b ∷ p) l = absurd (omega arith)

pub zero_first : (p : List ℕ) → 2 ≤ length p → slice_index p 0 ≡ 48 → None ≡ read p
unfolding is_number extra_zero
zero_first [] l e = absurd (omega arith)
zero_first (b ∷ []) l e = absurd (omega arith)
zero_first (b ∷ c ∷ p) l e = rw (eq-eqb b 48 e, and-false) refl

pub begins : (p : List ℕ) → 1 ≤ length p → (2 ≤ length p → slice_index p 0 ≡ 48 → ⊥) → number_on 0 p ≡ read p
unfolding is_number extra_zero
begins p l n = rw (lt-ltb 0 (length p) l, some p n, and-true) refl
  where
    some : (p : List ℕ) → (2 ≤ length p → slice_index p 0 ≡ 48 → ⊥) → extra_zero p ≡ false
    some [] n = refl
    some (b ∷ []) n = refl
    some (b ∷ c ∷ p) n = ne_eqb b 48 (n (omega arith))

-- At the byte at i, where what is left of the part is read as the whole part is.
module _ (p : List ℕ) (v i : ℕ) (l : i < length p) (e : number_on v (drop i p) ≡ read p) where
  abbrev b : ℕ
  b = slice_index p i

  on : number_on v (b ∷ drop (i + 1) p) ≡ read p
  on = sym (at_drop_more (number_on v) p i 0 l) ∙ e

  pub at_other : is_ascii_digit b ≡ false → None ≡ read p
  at_other d = (rw d refl) ∙ on

  pub too_large : 4294967295 < 10 * v + (b - 48) → None ≡ read p
  unfolding number_from
  too_large m =
      let more : 4294967295 < number_from (10 * v + (b - 48)) (drop (i + 1) p) = omega (arith, grows (10 * v + (b - 48)) (drop (i + 1) p)) in
      rw (lt-leb (number_from (10 * v + (b - 48)) (drop (i + 1) p)) 4294967295 more, and-false) refl ∙ on

  pub at_digit : (next : ℕ) → is_ascii_digit b ≡ true → next ≡ 10 * v + (b - 48) → number_on next (drop (i + 1) p) ≡ read p
  unfolding number_from
  at_digit next d n = rw n (rw d refl ∙ on)

pub at_end : (p : List ℕ) (v i : ℕ) → length p ≤ i → number_on v (drop i p) ≡ read p → v ≤ 4294967295 → Some v ≡ read p
unfolding number_from
at_end p v i l e m = rw (le-leb v 4294967295 m) at (sym (at_drop_all (number_on v) p i l) ∙ e)

pub ruleset at_each_byte = (no_byte, zero_first, begins, at_other, too_large, at_digit, at_end)
