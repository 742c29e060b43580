-- A whole run: where it begins, what is disclosed of what it comes to, its ending and steps. Of any
-- flowchart, in any mode, from any inputs and allowed set, within any limit.
use Rattle.std.specs.Prelude.{ℕ, List, cond}
use Rattle.decode.specs.Decode.{Box}
use Rattle.marks.specs.Marks.{Mode, hides}
use Rattle.machine.specs.Run.{Run, Ending, valued, notice, spent, Progress, going, over, run}
use Rattle.begin.specs.Begin.{first_vars, first_marks}

-- A chart as its runs see it: what the box of each number does, "the number of inputs k" and "the
-- first box run".
pub record Flowchart : Type 0 where
  pub flow : ℕ → Box
  pub inputs : ℕ
  pub first : ℕ

-- A run at its start: "Inputs are copied, other variables are 0, each withheld input is marked and
-- nothing else is."
abbrev pub start_of : Flowchart → Mode → (inputs : List ℕ) (allowed limit : ℕ) → Run
start_of c mode inputs allowed limit =
    record { vars = first_vars inputs; marks = first_marks allowed c.inputs; counter = 0; mode = mode; at = c.first; limit = limit; steps = 0 }

-- What is disclosed of what a run has come to. 02, b: "In high-water mode a notice and a spent run
-- now end alike: notice, steps 0, inputs 0."
unfoldable pub disclosed : Mode → Progress → Progress
disclosed mode (going q) = going q
disclosed mode (over (valued v) steps) = over (valued v) steps
disclosed mode (over (notice named) steps) = cond (hides mode) (over (notice 0) 0) (over (notice named) steps)
disclosed mode (over spent steps) = cond (hides mode) (over (notice 0) 0) (over spent steps)

-- An ending and its steps.
pub record Finish : Type 0 where
  pub ending : Ending
  pub steps : ℕ

-- The ending that a run has come to; of one that goes on, spent so far. As many boxes as a limit
-- above 0 end every run.
unfoldable pub finish : Progress → Finish
finish (going q) = record { ending = spent; steps = q.steps }
finish (over e steps) = record { ending = e; steps = steps }

-- The limit is the number that it means, and 0 runs nothing.
unfoldable pub whole : Flowchart → Mode → (inputs : List ℕ) (allowed limit : ℕ) → Finish
whole c mode inputs allowed limit = finish (disclosed mode (run c.flow limit (going (start_of c mode inputs allowed limit))))
