-- Laws of what a run begins with: the limit, the lengths of the variables and marks, each of them
-- by its place, what holds of every mark, and that two begins agree on what has no mark. Assumes
-- nothing.
use Prim.Native.Nat.{ℕ, zero, suc, ◌-◌, ◌^◌, ◌≤◌, ◌<◌, min}
use mathlib.Core.Path.{◌≡◌, refl, ap, sym, ◌∙◌, subst}
use mathlib.Core.Logic.{⊎_elim}
use mathlib.Core.List.{List, [], ◌∷◌, ◌++◌}
use mathlib.Core.Bool.{Bool, true, false, cond}
use native.Mathlib.Nat.{eq-or-lt_of_le}
use native.Mathlib.Decide.{dec_lt}
use native.Mathlib.Omega.{arith}
use lib.Dec.{eqb-suc-zero}
use lib.Pow.{pow_pos}
use lib.ListN.{length, get_or, take, replicate, length-append, length-take, length-replicate, get_or-append, get_or-eq_default}
use lib.Seq.{take_all, get_or_at}
use Rattle.begin.specs.Begin.{effective, allows, first_vars, withheld_mark, withheld_marks, first_marks}

pub effective_positive : (l : ℕ) → 0 < effective l
unfolding effective
effective_positive zero = omega arith
effective_positive (suc l) = rw (eqb-suc-zero l) (omega arith)

pub effective_fits : (l : ℕ) → l ≤ 65535 → effective l ≤ 65535
unfolding effective
effective_fits zero f = omega arith
effective_fits (suc l) f = rw (eqb-suc-zero l) f

pub length_vars : (i : List ℕ) → length i ≤ 32 → length (first_vars i) ≡ 32
unfolding first_vars
length_vars i f = simp (length-append, length-take, length-replicate) (omega arith)

pub length_withheld : (a k : ℕ) → length (withheld_marks a k) ≡ k
unfolding withheld_marks
length_withheld a zero = refl
length_withheld a (suc k) = simp (length-append, length_withheld a k) (omega arith)

pub length_marks : (a k : ℕ) → length (first_marks a k) ≡ 32
unfolding first_marks
length_marks a k = simp (length-append, length_withheld, length-replicate) (omega arith)

-- Zeros after a list are what a load past its end gives.
get_or-zeros : (l : List ℕ) (n j : ℕ) → get_or (l ++ replicate n 0) j 0 ≡ get_or l j 0
get_or-zeros [] zero j = refl
get_or-zeros [] (suc n) zero = refl
get_or-zeros [] (suc n) (suc j) = get_or-zeros [] n j
get_or-zeros (x ∷ l) n zero = refl
get_or-zeros (x ∷ l) n (suc j) = get_or-zeros l n j

pub zeros_at : (n j : ℕ) → ◌≡◌ {A = ℕ} (get_or (replicate n 0) j 0) 0
zeros_at n j = get_or-zeros [] n j

-- Variable j is input j, and 0 past the inputs.
pub vars_at : (i : List ℕ) (j : ℕ) → length i ≤ 32 → get_or (first_vars i) j 0 ≡ get_or i j 0
unfolding first_vars
vars_at i j f = get_or-zeros (take 32 i) (32 - length i) j ∙ ap (λ (l : List ℕ). get_or l j 0) (take_all 32 i f)

withheld_at : (a k j : ℕ) → j < k → get_or (withheld_marks a k) j 0 ≡ withheld_mark a j
unfolding withheld_marks
withheld_at a zero j l = absurd (omega arith)
withheld_at a (suc k) j l =
    let done = withheld_marks a k in
    let last = withheld_mark a k in
    let within : j ≤ k = omega arith in
    ⊎_elim
    (λ e. get_or_at done last [] 0 j (length_withheld a k ∙ sym e) ∙ ap (withheld_mark a) (sym e))
    (λ q. get_or-append done (last ∷ []) 0 j (omega (arith, length_withheld a k)) ∙ withheld_at a k j q)
    (eq-or-lt_of_le within)

-- Mark j is that of input j, and past the inputs there is none.
pub marks_at : (a k j : ℕ) → k ≤ 16 → j < k → get_or (first_marks a k) j 0 ≡ withheld_mark a j
unfolding first_marks
marks_at a k j f l = get_or-zeros (withheld_marks a (min 16 k)) (32 - min 16 k) j ∙ withheld_at a (min 16 k) j (omega arith)

pub marks_past : (a k j : ℕ) → min 16 k ≤ j → get_or (first_marks a k) j 0 ≡ 0
unfolding first_marks
marks_past a k j f =
    get_or-zeros (withheld_marks a (min 16 k)) (32 - min 16 k) j
    ∙ get_or-eq_default (withheld_marks a (min 16 k)) 0 (omega (arith, length_withheld a (min 16 k)))

-- What holds of no mark, and of each withheld input alone, holds of every mark that a run begins
-- with.
pub marks_all : (P : ℕ → Type 0) (a k : ℕ) → P 0 → ((j : ℕ) → j < k → allows a j ≡ false → P (2 ^ j)) → (v : ℕ) → P (get_or (first_marks a k) v 0)
unfolding first_marks withheld_mark
marks_all P a k none own v = on (dec_lt v (min 16 k))
  where
    by : (b : Bool) → allows a v ≡ b → v < k → P (cond b 0 (2 ^ v))
    by true e l = none
    by false e l = own v l e

    on : Dec (v < min 16 k) → P (get_or (first_marks a k) v 0)
    on (yes l) =
        subst P (sym (get_or-zeros (withheld_marks a (min 16 k)) (32 - min 16 k) v ∙ withheld_at a (min 16 k) v l)) (by (allows a v) refl (omega arith))
    on (no q) = subst P (sym (marks_past a k v (omega arith))) none

no_mark : (b : Bool) (j : ℕ) → cond b 0 (2 ^ j) ≡ 0 → b ≡ true
no_mark true j e = refl
no_mark false j e = absurd (omega (arith, pow_pos j))

allowed_at : (a j : ℕ) → withheld_mark a j ≡ 0 → allows a j ≡ true
unfolding withheld_mark
allowed_at a j e = no_mark (allows a j) j e

-- Two begins whose inputs differ at most where they are withheld give each variable without a mark
-- one value.
pub first_agree : (a k : ℕ) (i i' : List ℕ) → k ≤ 16 → length i ≡ k → length i' ≡ k
    → ((j : ℕ) → j < k → allows a j ≡ true → get_or i j 0 ≡ get_or i' j 0)
    → (j : ℕ) → get_or (first_marks a k) j 0 ≡ 0 → get_or (first_vars i) j 0 ≡ get_or (first_vars i') j 0
first_agree a k i i' f e e' same j m = vars_at i j (omega arith) ∙ on (dec_lt j k) ∙ sym (vars_at i' j (omega arith))
  where
    on : Dec (j < k) → get_or i j 0 ≡ get_or i' j 0
    on (yes l) = same j l (allowed_at a j (sym (marks_at a k j f l) ∙ m))
    on (no l) = get_or-eq_default i 0 (omega arith) ∙ sym (get_or-eq_default i' 0 (omega arith))
