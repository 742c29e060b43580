-- What a run begins with: its limit, its variables and their marks.
use Rattle.std.specs.Prelude.{ℕ, zero, suc, ◌-◌, ◌/◌, ◌%◌, ◌^◌, min, List, [], ◌∷◌, ◌++◌, Bool, cond, eqb, length, take, replicate}

-- "Limit 0 means 4,096; 1 to 65,535 mean themselves."
abbrev pub limit_for_none : ℕ
limit_for_none = 4096

unfoldable pub effective : ℕ → ℕ
effective limit = cond (eqb limit 0) limit_for_none limit

-- A set of inputs is a number: its "bit j (worth 2 to the power j)" is 1 where input j is in it.
abbrev pub has : (set j : ℕ) → Bool
has set j = eqb (set / 2 ^ j % 2) 1

-- "An allowed set is a number whose bit j (worth 2 to the power j) allows input j."
abbrev pub allows : ℕ → ℕ → Bool
allows allowed j = has allowed j

-- "Inputs are copied, other variables are 0": the 32 variables. An accepted begin lends at most 16
-- inputs.
unfoldable pub first_vars : List ℕ → List ℕ
first_vars inputs = take 32 inputs ++ replicate (32 - length inputs) 0

-- "each withheld input is marked and nothing else is", and 02, a: "A withheld input begins with
-- itself alone". The set of an input, those of the first k inputs, and those of all 32 variables:
-- "Variables 0 to 15 are inputs".
unfoldable pub withheld_mark : ℕ → ℕ → ℕ
withheld_mark allowed j = cond (allows allowed j) 0 (2 ^ j)

unfoldable pub withheld_marks : ℕ → ℕ → List ℕ
withheld_marks allowed zero = []
withheld_marks allowed (suc k) = withheld_marks allowed k ++ (withheld_mark allowed k ∷ [])

unfoldable pub first_marks : ℕ → ℕ → List ℕ
first_marks allowed k = withheld_marks allowed (min 16 k) ++ replicate (32 - min 16 k) 0
