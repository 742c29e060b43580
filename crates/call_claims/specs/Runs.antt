-- Claims about runs and refusals.
use Rattle.std.specs.Prelude.{ℕ, ◌+◌, ◌-◌, ◌≤◌, ◌≡◌, List, [], ◌∷◌, ◌≢◌, true, false}
use Rattle.marks.specs.Marks.{high_water, mode_of}
use Rattle.begin.specs.Begin.{effective}
use Rattle.calls.specs.Calls.{Call, begin, advance, answer}
use Rattle.runner.specs.declared.Runner.{Runner}
use Rattle.runner.specs.State.{is_running, is_ended, ending_in, total_in, mode_number, ended_with, dropped, flowchart_in}
use Rattle.runs.specs.Whole.{whole}
use Rattle.runner.specs.Outcomes.{Reply, done, chart, running, ended, ending, wrote, refused, lent, call}
use Rattle.call_claims.specs.Lists.{Reached, Accepted, begun, final, Continued, AllTold, asked, Ends}

-- Demand 1: "A refusal changes neither the runner nor one byte of a lent buffer."
abbrev pub RefusalChangesNothing : Type 0
RefusalChangesNothing =
    (c : Call) (r : Runner) (number detail : ℕ)
    → (call c r).told.reply ≡ refused number detail
    → ((call c r).told.buffer ≡ lent c) × ((call c r).next ≡ r)

-- "Advancing by m and then by p does what advancing by m + p does": the runner, and what the second
-- call tells. Of every runner and m that meet a condition.
abbrev pub AdvancesJoinWhere : (Runner → ℕ → Type 0) → Type 0
AdvancesJoinWhere Holds = (r : Runner) (m p : ℕ) → Holds r m → call (advance p) (call (advance m) r).next ≡ call (advance (m + p)) r

-- "where the run hasn't ended after m".
abbrev pub NotEndedAfter : Runner → ℕ → Type 0
NotEndedAfter r m = is_running (call (advance m) r).next ≡ true

-- 02, b: "its rules on advancing by m and then by p and on advances that add up to the limit don't
-- speak of this mode", high-water.
abbrev pub NotHighWater : ℕ → Type 0
NotHighWater mode = mode_of mode ≢ high_water

-- Of the definition this holds without a bound on m + p.
abbrev pub AdvancesJoin : Type 0
AdvancesJoin = AdvancesJoinWhere (λ r m. NotHighWater (mode_number r.mode) × NotEndedAfter r m)

-- What holds of every run at its start: after each accepted begin, of its mode, the number that its
-- limit means and the runner handed back.
abbrev pub AfterBegin : ((mode limit : ℕ) → Runner → Type 0) → Type 0
AfterBegin P =
    (r : Runner) (mode : ℕ) (inputs : List ℕ) (allowed limit : ℕ)
    → Accepted (begin mode inputs allowed limit) r
    → P mode (effective limit) (begun mode inputs allowed limit r)

-- "Each box run counts one, the box that ends the run included": an advance by m from the start
-- that leaves the run under way tells m steps; one that ends it tells s steps where an advance by s
-- ends it so and one by s - 1 does not. In modes that meet a condition.
abbrev pub CountsBoxesWhere : (ℕ → Type 0) → Type 0
CountsBoxesWhere Holds =
    AfterBegin
    (λ mode limit start. Holds mode
    → (m s : ℕ)
    → ((call (advance m) start).told.reply ≡ running s → s ≡ m)
    × ((call (advance m) start).told.reply ≡ ended s
    → (1 ≤ s)
    × (s ≤ m)
    × ((call (advance (s - 1)) start).told.reply ≡ running (s - 1))
    × (call (advance s) start ≡ call (advance m) start)))

abbrev pub CountsBoxes : Type 0
CountsBoxes = CountsBoxesWhere NotHighWater

-- "Advances that add up to the limit always end a run", in modes that meet a condition.
abbrev pub LimitEndsWhere : (ℕ → Type 0) → Type 0
LimitEndsWhere Holds =
    Continued (λ r mode inputs allowed limit cs. Holds mode → effective limit ≤ asked cs → Ends cs (begun mode inputs allowed limit r))

abbrev pub LimitEnds : Type 0
LimitEnds = LimitEndsWhere NotHighWater

-- In every mode one advance by the limit or more ends a run.
abbrev pub OneAdvanceEnds : Type 0
OneAdvanceEnds = AfterBegin (λ mode limit start. (m : ℕ) → limit ≤ m → Ends (advance m ∷ []) start)

-- "Ending, value and step count are those of its rules": after an accepted begin in any mode and
-- calls that end the run, an answer tells the ending and the steps of the whole run. Bare and under
-- surveillance all lists end it whose advances reach the limit (`LimitEnds`), in high-water mode
-- all with an accepted advance (`HighWaterEnds`).
abbrev pub TellsWholeRun : Type 0
TellsWholeRun =
    Continued
    (λ r mode inputs allowed limit cs. Ends cs (begun mode inputs allowed limit r)
    → let all = whole (flowchart_in r) (mode_of mode) inputs allowed (effective limit) in
    (call answer (final cs (begun mode inputs allowed limit r))).told ≡ record { reply = ending all.ending all.steps; buffer = [] })

-- The steps that a reply tells.
abbrev pub steps_told : Reply → ℕ
steps_told done = 0
steps_told (chart inputs boxes) = 0
steps_told (running steps) = steps
steps_told (ended steps) = steps
steps_told (ending e steps) = steps
steps_told (wrote bytes) = 0
steps_told (refused number detail) = 0

-- The steps told never pass the limit, in any mode.
abbrev pub WithinLimit : Type 0
WithinLimit = AllTold (λ r mode allowed limit reply. steps_told reply ≤ effective limit)

-- "When a run ends or is dropped, the variables, their marks and the counter mark become 0": a
-- runner with no run keeps the chart and nothing else, and one with an ended run keeps the chart
-- and the ending.
abbrev pub Cleared : Type 0
Cleared =
    (r : Runner)
    → Reached r
    → (is_running r ≡ false → is_ended r ≡ false → r ≡ dropped r) × (is_ended r ≡ true → r ≡ ended_with (ending_in r) (total_in r) r)
