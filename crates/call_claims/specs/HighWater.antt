-- Claims about high-water runs. 02, b: "Advance in this mode tells only "ended" with 0 steps, and
-- the answer call gives the count when there is a value."
use Rattle.std.specs.Prelude.{ℕ, ◌≤◌, ◌<◌, ◌≡◌, [], ◌∷◌, true}
use Rattle.marks.specs.Marks.{high_water}
use Rattle.machine.specs.Run.{valued, notice, spent, Progress, going, over, run}
use Rattle.begin.specs.Begin.{effective}
use Rattle.calls.specs.Calls.{advance, answer}
use Rattle.runner.specs.declared.Runner.{Runner}
use Rattle.runner.specs.State.{is_running, flowchart_in, flow_in}
use Rattle.runs.specs.Whole.{start_of}
use Rattle.runner.specs.Outcomes.{Reply, done, chart, running, ended, ending, wrote, refused, call}
use Rattle.call_claims.specs.Lists.{Accepted, begun, final, Continued, AllTold, Ends}

-- What may be told of a high-water run: never that it is under way, "ended" with 0 steps, and an
-- ending that is a value with its count or "notice, steps 0, inputs 0".
abbrev pub CountsValuesOnly : Reply → Type 0
CountsValuesOnly done = Unit {0}
CountsValuesOnly (chart inputs boxes) = Unit {0}
CountsValuesOnly (running steps) = ⊥
CountsValuesOnly (ended steps) = steps ≡ 0
CountsValuesOnly (ending (valued v) steps) = Unit {0}
CountsValuesOnly (ending (notice named) steps) = (steps ≡ 0) × (named ≡ 0)
CountsValuesOnly (ending spent steps) = ⊥
CountsValuesOnly (wrote bytes) = Unit {0}
CountsValuesOnly (refused number detail) = Unit {0}

-- All that is told after a begin in a mode, while calls only continue its run.
abbrev pub CountsValuesOnlyIn : (mode : ℕ) → Type 0
CountsValuesOnlyIn guarded = AllTold (λ r mode allowed limit reply. mode ≡ guarded → CountsValuesOnly reply)

abbrev pub HighWaterTells : Type 0
HighWaterTells = CountsValuesOnlyIn 2

-- What an answer tells by what the boxes have come to: "the answer call gives the count when there
-- is a value", and else "notice, steps 0, inputs 0".
abbrev pub answer_to : Progress → Reply
answer_to (going q) = ending (notice 0) 0
answer_to (over (valued v) steps) = ending (valued v) steps
answer_to (over (notice named) steps) = ending (notice 0) 0
answer_to (over spent steps) = ending (notice 0) 0

-- So it is after an accepted begin and calls that end the run, of the boxes from its start on, as
-- many as the limit or fewer.
abbrev pub HighWaterAnswers : Type 0
HighWaterAnswers =
    Continued
    (λ r mode inputs allowed limit cs. mode ≡ 2
    → Ends cs (begun mode inputs allowed limit r)
    → let boxes = run (flow_in r) (effective limit) (going (start_of (flowchart_in r) high_water inputs allowed (effective limit))) in
    (call answer (final cs (begun mode inputs allowed limit r))).told ≡ record { reply = answer_to boxes; buffer = [] })

-- An advance of a high-water run under way within a limit: "It refuses, with 13 and after 23, an
-- advance by less than the run's limit", and no other; and one that it accepts ends the run.
pub record EndsAtOnce (limit : ℕ) (r : Runner) (m : ℕ) : Type 0 where
  pub less : m < limit → call (advance m) r ≡ record { told = record { reply = refused 13 0; buffer = [] }; next = r }
  pub enough : limit ≤ m → Accepted (advance m) r
  pub ends : Accepted (advance m) r → ((call (advance m) r).told ≡ record { reply = ended 0; buffer = [] }) × Ends (advance m ∷ []) r

-- The limit is the number that begin's means, whatever calls have continued the run since.
abbrev pub HighWaterEnds : Type 0
HighWaterEnds =
    Continued
    (λ r mode inputs allowed limit cs. mode ≡ 2
    → is_running (final cs (begun mode inputs allowed limit r)) ≡ true
    → (m : ℕ)
    → EndsAtOnce (effective limit) (final cs (begun mode inputs allowed limit r)) m)
