-- The claims at their exact bounds, so that a claim whose bound is moved by one would be noticed
-- here. Each is proved from the theorems of the claims that it is of. Besides, `RunsWithinBounds`
-- needs that a begun run is under way and that what a limit means is not 0, `HeldWithinBounds` that
-- a number in range is not the first one out of it, and `WrittenIntoExactRoom` and
-- `NamesWithinBounds` laws of lists and of truth values.
use Rattle.std.specs.Prelude.{ℕ, ◌+◌, ◌-◌, ◌^◌, ◌≡◌, ◌≢◌, true, false, length, get_or}
use mathlib.Core.List.{List, [], ◌∷◌, Memᴰ}
use Rattle.chart_claims.specs.Bounds.{ChartBounds}
use Rattle.begin.specs.Begin.{effective, has, allows}
use Rattle.calls.specs.Calls.{Call, load, advance, answer, write_back}
use Rattle.runner.specs.declared.Runner.{Runner}
use Rattle.machine.specs.Run.{named_in}
use Rattle.runner.specs.State.{is_held, is_running, is_ended, ending_in, state_number, mode_number}
use Rattle.runner.specs.Outcomes.{ended, wrote, refused, Told, call}
use Rattle.call_claims.specs.Lists.{Reached, Accepted, begun, tells, final, AllContinue, AllTold, Ends}
use Rattle.call_claims.specs.Demand3.{tells_value, SomeAnswer}
use Rattle.call_claims.specs.Parameters.{Begins, SameLimit}
use Rattle.call_claims.specs.Runs.{NotHighWater, AfterBegin, steps_told}
use Rattle.call_claims.specs.Charts.{AllKeepChart}
use Rattle.call_claims.specs.Sets.{named_told}

-- Demand 3's second half: after one advance by exactly the limit an answer tells the value that
-- high-water told.
abbrev pub AnswersAtTheLimit : Type 0
AnswersAtTheLimit =
    (r r' : Runner) (inputs : List ℕ) (allowed limit limit' : ℕ)
    → Begins 2 1 SameLimit r r' inputs inputs allowed limit limit'
    → (v steps : ℕ)
    → SomeAnswer (begun 2 inputs allowed limit r) v steps
    → (call answer (call (advance (effective limit')) (begun 1 inputs allowed limit' r')).next).told ≡ tells_value v steps

-- A run from its start: no call tells one step more than the limit, and one advance by exactly the
-- limit ends it. In high-water mode an advance by one less is refused; in the others it and one by
-- 1 after it end the run, and an advance by m never tells an end in no steps, or in m + 1.
pub record RunBounds (mode limit : ℕ) (start : Runner) : Type 0 where
  pub within : (cs : List Call) → AllContinue cs start → (t : Told) → Memᴰ t (tells cs start) → steps_told t.reply ≢ limit + 1
  pub ends : Ends (advance limit ∷ []) start
  pub less : mode ≡ 2 → (call (advance (limit - 1)) start).told.reply ≡ refused 13 0
  pub sum : NotHighWater mode → Ends (advance (limit - 1) ∷ advance 1 ∷ []) start
  pub some : NotHighWater mode → (m : ℕ) → (call (advance m) start).told.reply ≢ ended 0
  pub few : NotHighWater mode → (m : ℕ) → (call (advance m) start).told.reply ≢ ended (m + 1)

abbrev pub RunsWithinBounds : Type 0
RunsWithinBounds = AfterBegin RunBounds

-- A buffer exactly as long as the file is enough to write it back, and is then the file.
abbrev pub WrittenIntoExactRoom : Type 0
WrittenIntoExactRoom =
    (r : Runner) (file buffer : List ℕ) (cs : List Call)
    → Accepted (load file) r
    → AllKeepChart cs (call (load file) r).next
    → length buffer ≡ length file
    → (call (write_back buffer) (final cs (call (load file) r).next)).told ≡ record { reply = wrote (length file); buffer = file }

-- The chart that a reachable runner holds.
abbrev pub HeldWithinBounds : Type 0
HeldWithinBounds = (r : Runner) → Reached r → is_held r ≡ true → ChartBounds r.header r.table

-- A run under way: none of its numbers is the first one out of range.
pub record UnderWayBounds (r : Runner) : Type 0 where
  pub at : r.at ≢ r.header.boxes
  pub mode : mode_number r.mode ≢ 3
  pub below : r.steps ≢ r.limit
  pub limit : r.limit ≢ 65536
  pub sets : (v : ℕ) → get_or r.marks v 0 ≢ 2 ^ r.header.inputs
  pub counter : r.counter ≢ 2 ^ r.header.inputs

-- And no state is past the three endings, nor a named set past the inputs.
abbrev pub StatesWithinBounds : Type 0
StatesWithinBounds =
    ((r : Runner) → Reached r → is_running r ≡ true → UnderWayBounds r)
    × ((r : Runner) → Reached r → is_ended r ≡ true → (state_number r.state ≢ 5) × (named_in (ending_in r) ≢ 2 ^ r.header.inputs))

-- No set told has a bit at k, or one of an input that is allowed.
abbrev pub NamesWithinBounds : Type 0
NamesWithinBounds =
    AllTold
    (λ r mode allowed limit reply. (has (named_told reply) r.header.inputs ≡ false)
    × ((j : ℕ) → allows allowed j ≡ true → has (named_told reply) j ≡ false))
