-- Demand 3 with its modes and what relates its limits as parameters, so that what it would say of
-- others can be refuted; and that at its own it holds.
use Rattle.std.specs.Prelude.{ℕ, ◌≡◌, List}
use Rattle.marks.specs.Marks.{mode_of}
use Rattle.begin.specs.Begin.{effective}
use Rattle.run_claims.specs.Secrecy.{Guarded, AllowedAlike}
use Rattle.calls.specs.Calls.{Call, begin}
use Rattle.runner.specs.declared.Runner.{Runner}
use Rattle.call_claims.specs.Lists.{Reached, Accepted, begun, tells}
use Rattle.call_claims.specs.Demand3.{HoldOneChart, SomeAnswer, AnswersAlways}

-- The two begins that a half compares, in these modes and with limits that are related so.
pub record Begins (mode mode' : ℕ) (Limits : ℕ → ℕ → Type 0) (r r' : Runner) (inputs inputs' : List ℕ) (allowed limit limit' : ℕ) : Type 0 where
  pub made : Reached r
  pub made' : Reached r'
  pub one_chart : HoldOneChart r r'
  pub limits : Limits limit limit'
  pub accepted : Accepted (begin mode inputs allowed limit) r
  pub accepted' : Accepted (begin mode' inputs' allowed limit') r'

abbrev pub SameLimit : ℕ → ℕ → Type 0
SameLimit limit limit' = effective limit ≡ effective limit'

-- The secrecy rule for such begins.
abbrev pub Secrecy : (mode mode' : ℕ) (Limits : ℕ → ℕ → Type 0) → Type 0
Secrecy mode mode' Limits =
    (r r' : Runner) (inputs inputs' : List ℕ) (allowed limit limit' : ℕ)
    → Begins mode mode' Limits r r' inputs inputs' allowed limit limit'
    → AllowedAlike allowed inputs inputs'
    → (cs : List Call)
    → tells cs (begun mode inputs allowed limit r) ≡ tells cs (begun mode' inputs' allowed limit' r')

-- Surveillance answers wherever a run in a mode does.
abbrev pub AnswersAs : (mode : ℕ) (Limits : ℕ → ℕ → Type 0) → Type 0
AnswersAs mode Limits =
    (r r' : Runner) (inputs : List ℕ) (allowed limit limit' : ℕ)
    → Begins mode 1 Limits r r' inputs inputs allowed limit limit'
    → (v steps : ℕ)
    → SomeAnswer (begun mode inputs allowed limit r) v steps
    → AnswersAlways (begun 1 inputs allowed limit' r') (effective limit') v steps

-- At demand 3's own parameters: one mode that guards on both sides, and high-water.
abbrev pub HalvesByParameters : Type 0
HalvesByParameters = ((mode : ℕ) → Guarded (mode_of mode) → Secrecy mode mode SameLimit) × AnswersAs 2 SameLimit
