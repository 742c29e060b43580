-- What the code's answers tell, one definition for each type: document 01's number, detail and
-- values for every case.
use Rattle.std.specs.Prelude.{ℕ, Bool, cond, Option, None, Some, Result, Ok, Err, ⊤}
use Rattle.block.specs.declared.Refusal.{Refusal}
use Rattle.runner.specs.Outcomes.{Reply, done, chart, running, ended, ending, wrote, turned_away}
use Rattle.runner.specs.declared.Loaded.{Loaded}
use Rattle.runner.specs.declared.Advanced.{Advanced}
use Rattle.runner.specs.declared.Advanced.TheVariants.{Running, Ended}
use Rattle.runner.specs.declared.Ending.{Ending}
use Rattle.runner.specs.declared.Answered.{Answered}
use Rattle.runner.specs.State.{ending_of}

-- What is told of a call: what it tells where it is done, or its refusal.
abbrev pub reply_by : {A : Type 0} → (A → Reply) → Result A Refusal → Reply
reply_by tells (Ok told) = tells told
reply_by tells (Err x) = turned_away x

unfoldable pub load_reply : Result Loaded Refusal → Reply
load_reply told = reply_by (λ (c : Loaded). chart c.inputs c.boxes) told

unfoldable pub verdict_reply : Result ⊤ Refusal → Reply
verdict_reply told = reply_by (λ (u : ⊤). done) told

abbrev pub progress_told : Advanced → Reply
progress_told (Running steps) = running steps
progress_told (Ended steps) = ended steps

unfoldable pub advance_reply : Result Advanced Refusal → Reply
advance_reply told = reply_by progress_told told

-- What an accepted advance tells of a run that goes on after so many steps, or has come to an end
-- in a mode that hides its counts or not.
abbrev pub told_of : Option Ending → (hidden : Bool) → (steps : ℕ) → Reply
told_of None hidden steps = running steps
told_of (Some e) hidden steps = ended (cond hidden 0 steps)

abbrev pub ending_told : Answered → Reply
ending_told a = ending (ending_of a.ending) a.steps

unfoldable pub answer_reply : Result Answered Refusal → Reply
answer_reply told = reply_by ending_told told

unfoldable pub written_reply : Result ℕ Refusal → Reply
written_reply told = reply_by wrote told
