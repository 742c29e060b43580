-- "One step, and the ending": a run after one box, and after m boxes.
use Rattle.std.specs.Prelude.{ℕ, zero, suc, ◌+◌, ◌%◌, List, cond, leb, set}
use Rattle.decode.specs.Decode.{Box}
use Rattle.marks.specs.Marks.{Mode}
use Rattle.machine.specs.Act.{act}
use Rattle.machine.specs.declared.Act.{Act}
use Rattle.machine.specs.declared.Act.TheVariants.{Store, Go, Value, Notice}

-- A run under way: "the 32 variables and their marks, the counter mark", and of "the few numbers
-- the rules need" the mode, the box at hand, the limit and the steps so far.
pub record Run : Type 0 where
  pub vars : List ℕ
  pub marks : List ℕ
  pub counter : ℕ
  pub mode : Mode
  pub at : ℕ
  pub limit : ℕ
  pub steps : ℕ

-- The kind of an ending, with "the value if there is one", and 02, a: the set that a notice
-- carries.
pub data Ending : Type 0 where
  valued : ℕ → Ending
  notice : (named : ℕ) → Ending
  spent : Ending

-- What an ending carries: a value, 0 where there is none; and 02, a: the set of a notice, where
-- "All other endings .. carry 0".
abbrev pub value_in : Ending → ℕ
value_in (valued v) = v
value_in (notice named) = 0
value_in spent = 0

abbrev pub named_in : Ending → ℕ
named_in (valued v) = 0
named_in (notice named) = named
named_in spent = 0

-- What a run has come to: it goes on, or it is over after so many steps.
pub data Progress : Type 0 where
  going : Run → Progress
  over : Ending → (steps : ℕ) → Progress

-- The run at another box: "Each box run counts one".
abbrev pub moved : Run → (vars marks : List ℕ) → (counter at : ℕ) → Run
moved q vars marks counter at =
    record { vars = vars; marks = marks; counter = counter; mode = q.mode; at = at; limit = q.limit; steps = q.steps + 1 }

-- "if the box that makes the count equal the limit doesn't end the run, it ends "spent"." The steps
-- of a run under way are below its limit, so the count is at most the limit.
unfoldable pub goes_on : Run → Progress
goes_on q = cond (leb q.limit q.steps) (over spent q.steps) (going q)

-- The run after an act. "Halt and notice come before the limit", "the box that ends the run
-- included" in the count.
unfoldable pub settle : Act → Run → Progress
settle (Store target value mark next) q =
    goes_on (moved q (set q.vars (target % 32) value) (set q.marks (target % 32) mark) q.counter next)
settle (Go next counter) q = goes_on (moved q q.vars q.marks counter next)
settle (Value v) q = over (valued v) (q.steps + 1)
settle (Notice named) q = over (notice named) (q.steps + 1)

-- The box at hand is run, of a chart's flow.
abbrev pub step : (flow : ℕ → Box) → Run → Progress
step flow q = settle (act q.mode (flow q.at) q.vars q.marks q.counter) q

-- One box, where the run is not over.
unfoldable pub onward : (flow : ℕ → Box) → Progress → Progress
onward flow (going q) = step flow q
onward flow (over e steps) = over e steps

-- "runs m boxes, or fewer if the run ends".
unfoldable pub run : (flow : ℕ → Box) → ℕ → Progress → Progress
run flow zero p = p
run flow (suc m) p = run flow m (onward flow p)
