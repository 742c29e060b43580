-- Laws of first_failing: what it says where no number fails and where one does, and which number it
-- is; and what a search that found this or nothing found. all_hold, none_fails; first_is,
-- first_says; found_is. Assumes nothing.
use Prim.Native.Nat.{ℕ, zero, suc, ◌+◌, ◌≤◌, ◌<◌}
use mathlib.Core.Path.{◌≡◌, refl, ap, sym, ◌∙◌}
use mathlib.Core.Bool.{Bool, true, false, cond}
use mathlib.Core.Logic.{⊎_elim}
use native.Mathlib.Nat.{eq-or-lt_of_le}
use native.Mathlib.Omega.{arith}
use lib.Dec.{ltb}
use borrow.Author.Tests.{ltb-false, lt-ltb, le-ltb}
use Rattle.std.specs.Prelude.{Option, None, Some}
use Rattle.format.specs.Search.{first_from, first_failing, found_failing, IsFirstFailing}

module _ (test : ℕ → Bool) where
  all_from : (left i : ℕ) → i + left ≤ first_from test i left → (j : ℕ) → i ≤ j → j < i + left → test j ≡ true
  unfolding first_from
  all_from zero i h j l q = absurd (omega arith)
  all_from (suc left) i h j l q = here (test i) refl h (λ g d. all_from left (i + 1) g j d (omega arith))
    where
      here : (b : Bool) → test i ≡ b → i + suc left ≤ cond b (first_from test (i + 1) left) i
          → (i + 1 + left ≤ first_from test (i + 1) left → i + 1 ≤ j → test j ≡ true) → test j ≡ true
      here true e g rest = ⊎_elim (λ d. ap test (sym d) ∙ e) (λ d. rest (omega arith) (omega arith)) (eq-or-lt_of_le l)
      here false e g rest = absurd (omega arith)

  pub all_hold : (count : ℕ) → ltb (first_failing test count) count ≡ false → (j : ℕ) → j < count → test j ≡ true
  all_hold count e j l = all_from count 0 (omega (arith, ltb-false (first_failing test count) count e)) j (omega arith) (omega arith)

  none_from : (left i : ℕ) → ((j : ℕ) → j < i + left → test j ≡ true) → first_from test i left ≡ i + left
  unfolding first_from
  none_from zero i holds = omega arith
  none_from (suc left) i holds = rw (holds i (omega arith)) (none_from left (i + 1) (λ j l. holds j (omega arith)) ∙ omega arith)

  -- No number fails.
  pub none_fails : (count : ℕ) → ((j : ℕ) → j < count → test j ≡ true) → first_failing test count ≡ count
  none_fails count holds = none_from count 0 (λ j l. holds j (omega arith)) ∙ omega arith

  first_from_lem : (left k i : ℕ) → k ≤ i → i < k + left → ((j : ℕ) → j < i → test j ≡ true) → test i ≡ false → first_from test k left ≡ i
  unfolding first_from
  first_from_lem zero k i l q before here = absurd (omega arith)
  first_from_lem (suc left) k i l q before here =
      ⊎_elim
      (λ e. let fails : test k ≡ false = ap test e ∙ here in rw fails e)
      (λ d. rw (before k d) (first_from_lem left (k + 1) i (omega arith) (omega arith) before here))
      (eq-or-lt_of_le l)

  -- The number that fails where those below it do not.
  pub first_is : (count i : ℕ) → i < count → ((j : ℕ) → j < i → test j ≡ true) → test i ≡ false → first_failing test count ≡ i
  first_is count i l before here = first_from_lem count 0 i (omega arith) (omega arith) before here

  -- What a search that found i says: it fails, and those from k on that are below it do not.
  abbrev Found : (k i : ℕ) → Type 0
  Found k i = ((j : ℕ) → k ≤ j → j < i → test j ≡ true) × (test i ≡ false)

  says_from : (left k : ℕ) → first_from test k left < k + left → Found k (first_from test k left)
  unfolding first_from
  says_from zero k l = absurd (omega arith)
  says_from (suc left) k l = on (test k) refl l (λ m. says_from left (k + 1) m)
    where
      on : (b : Bool) → test k ≡ b → cond b (first_from test (k + 1) left) k < k + suc left
          → (first_from test (k + 1) left < k + 1 + left → Found (k + 1) (first_from test (k + 1) left))
          → Found k (cond b (first_from test (k + 1) left) k)
      on true e q rest =
          let r = rest (omega arith) in
          (λ j m n. ⊎_elim (λ d. ap test (sym d) ∙ e) (λ d. r.0 j (omega arith) n) (eq-or-lt_of_le m), r.1)
      on false e q rest = (λ j m n. absurd (omega arith), e)

  -- One fails: it does, and those below it do not.
  pub first_says : (count : ℕ) → first_failing test count < count → ((j : ℕ) → j < first_failing test count → test j ≡ true) × (test (first_failing test count) ≡ false)
  first_says count l =
      let s = says_from count 0 (omega arith) in
      (λ j m. s.0 j (omega arith) m, s.1)

-- What a search finds by a test that gives at most this.
pub found_is : (gives : ℕ → Bool → Type 0) (test : ℕ → Bool) (count : ℕ) (found : Option ℕ) → IsFirstFailing gives count found
    → ((i : ℕ) (b : Bool) → gives i b → b ≡ test i)
    → found ≡ found_failing test count
found_is gives test count None h is =
    let none = none_fails test count (λ j l. sym (is j true (h.cases j l))) in
    rw (none, le-ltb count count (omega arith)) refl
found_is gives test count (Some i) h is =
    let f = h.cases in
    let first = first_is test count i f.0 (λ j l. sym (is j true (f.2 j l))) (sym (is i false f.1)) in
    rw (first, lt-ltb i count f.0) refl
