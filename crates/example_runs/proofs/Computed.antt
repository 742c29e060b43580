-- The tables of runs hold by computation, but for two rows: the one bits of a large number, counted
-- in halves, and a variable minus itself. Assumes nothing.
use Prim.Native.Nat.{ℕ, ◌+◌, ◌*◌, ◌-◌, ◌%◌, ◌^◌, ◌<◌}
use mathlib.Core.Path.{◌≡◌, refl, ap, ◌∙◌}
use mathlib.Core.List.{List, [], ◌∷◌, map}
use native.Mathlib.Omega.{arith}
use lib.ListN.{set}
use lib.Count.{ones_in, ones, ones_cat}
use Rattle.machine.specs.Run.{valued}
use Rattle.runner.specs.Outcomes.{done, chart, ended, ending}
use Rattle.example_charts.specs.Cases.{Given, told, number, gives, replied, expected}
use Rattle.example_charts.proofs.Open.{conversions_open, marks_open, runs_open, rewritings_open}
use Rattle.example_runs.specs.Runs.{paper_cases, PaperCases, naming_cases, NamingCases, hidden_cases, HiddenCases}
use Rattle.example_runs.specs.Editions.{edition_cases, EditionCases}
use Rattle.example_runs.specs.Rewriting.{rewriting_cases, RewritingCases}
use Rattle.example_runs.specs.Keeping.{keeping_cases, KeepingCases}

-- The one bits of a number written twice, which is how those of a large number are counted.
twice : (k n c : ℕ) → n < 2 ^ k → ones n ≡ c → ones (n * 2 ^ k + n) ≡ c + c
twice k n c l e = ones_cat k n n l ∙ ap (λ (x : ℕ). x + x) e

all_ones : ones 4294967295 ≡ 32
unfolding ones ones_in
all_ones = twice 16 65535 16 (omega arith) (twice 8 255 8 (omega arith) (twice 4 15 4 (omega arith) refl))

-- A 32-bit number minus itself.
itself : (x : ℕ) → x < 2 ^ 32 → (x + (2 ^ 32 - x)) % 2 ^ 32 ≡ 0
itself x l = let e : x + (2 ^ 32 - x) ≡ 2 ^ 32 = omega arith in ap (λ (n : ℕ). n % 2 ^ 32) e

-- What is expected but for those two rows: the value that chart D ends with, and the one bits.
rows : ℕ → ℕ → ℕ → List Given
rows x value bits =
    set (set (map expected (paper_cases x)) 9 (told (replied (chart 1 2 ∷ done ∷ ended 2 ∷ ending (valued value) 2 ∷ [])))) 17 (number bits)

pub paper_cases_lem : PaperCases
unfolding runs_open gives expected paper_cases rows
paper_cases_lem x l = (refl, ap (λ (v : ℕ). rows x v (ones 4294967295)) (itself x l) ∙ ap (rows x 0) all_ones)

pub naming_cases_lem : NamingCases
unfolding runs_open gives expected naming_cases
naming_cases_lem = (refl, refl)

pub hidden_cases_lem : HiddenCases
unfolding runs_open gives expected hidden_cases
hidden_cases_lem = (refl, refl)

pub edition_cases_lem : EditionCases
unfolding runs_open gives expected edition_cases
edition_cases_lem = (refl, refl)

pub rewriting_cases_lem : RewritingCases
unfolding rewritings_open conversions_open gives expected rewriting_cases
rewriting_cases_lem = (refl, refl)

pub keeping_cases_lem : KeepingCases
unfolding marks_open gives expected keeping_cases
keeping_cases_lem = (refl, refl)
