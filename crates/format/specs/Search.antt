-- The first number that fails a test: the details of refusals 2, 6 and 14.
use Rattle.std.specs.Prelude.{ℕ, zero, suc, ◌+◌, ◌<◌, Bool, true, false, cond, Option, None, Some, ltb, MatchOption}

-- The first of the numbers i, i + 1, .., i + left - 1 that fails the test, or i + left.
unfoldable pub first_from : (ℕ → Bool) → ℕ → ℕ → ℕ
first_from test i zero = i
first_from test i (suc left) = cond (test i) (first_from test (i + 1) left) i

-- The first number below count that fails the test, or count where none does.
abbrev pub first_failing : (ℕ → Bool) → ℕ → ℕ
first_failing test count = first_from test 0 count

-- The same, and none where no number fails.
abbrev pub found_failing : (ℕ → Bool) → ℕ → Option ℕ
found_failing test count = cond (ltb (first_failing test count) count) (Some (first_failing test count)) None

-- What a search finds by a test that may give this: each number below count passes, or this is the
-- first that fails.
pub record IsFirstFailing (gives : ℕ → Bool → Type 0) (count : ℕ) (found : Option ℕ) : Type 0 where
  pub cases : MatchOption found ((j : ℕ) → j < count → gives j true) (λ i. (i < count) × gives i false × ((j : ℕ) → j < i → gives j true))
