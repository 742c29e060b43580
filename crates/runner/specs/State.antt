-- "The runner holds the box table, the 32 variables and their marks, the counter mark and the
-- ending, besides the few numbers the rules need." Those are the header of the chart; of a run
-- under way the mode, the box at hand, the limit and the steps so far; and what state it is in.
use Rattle.std.specs.Prelude.{ℕ, Bool, true, false, cond, replicate}
use Rattle.format.specs.File.{in_range}
use Rattle.chart.specs.Chart.{Chart}
use Rattle.decode.specs.Decode.{Box, flow}
use Rattle.marks.specs.Marks.{Mode, bare, code_of, mode_in, hides}
use Rattle.marks.specs.declared.Mode as code
use Rattle.marks.specs.declared.Mode.TheVariants.{Bare, Surveillance, HighWater}
use Rattle.machine.specs.Run.{Run, Ending, valued, notice, spent, Progress, going, over, run}
use Rattle.runs.specs.Whole.{Flowchart, disclosed}
use Rattle.calls.specs.declared.Standing.{Standing}
use Rattle.runner.specs.declared.Ending as coded
use Rattle.runner.specs.declared.Ending.TheVariants.{Value, Notice, Spent}
use Rattle.runner.specs.declared.Answered.{Answered}
use Rattle.runner.specs.declared.State.{State}
use Rattle.runner.specs.declared.State.TheVariants.{NoRun, Running, Ended}
use Rattle.runner.specs.declared.Runner.{Runner}

-- The chart in a runner. It holds one where the header's numbers of inputs and boxes and its first
-- box are those of a file; a new runner's are 0.
abbrev pub chart_in : Runner → Chart
chart_in r = record { header = r.header; table = r.table }

abbrev pub is_held : Runner → Bool
is_held r = in_range r.header

-- The states: no run, a run under way, and an ended run with what an answer tells of it.
abbrev pub is_running_in : State → Bool
is_running_in NoRun = false
is_running_in Running = true
is_running_in (Ended a) = false

abbrev pub is_ended_in : State → Bool
is_ended_in NoRun = false
is_ended_in Running = false
is_ended_in (Ended a) = true

abbrev pub is_running : Runner → Bool
is_running r = is_running_in r.state

abbrev pub is_ended : Runner → Bool
is_ended r = is_ended_in r.state

-- The mode of a runner.
abbrev pub mode_held : Runner → Mode
mode_held r = mode_in r.mode

-- The least amount by which a run may be advanced: its limit in high-water mode, and else any.
abbrev pub least_in : Runner → ℕ
least_in r = cond (hides (mode_held r)) r.limit 0

-- What the refusals look at.
abbrev pub standing_of : Runner → Standing
standing_of r = record { header = r.header; running = is_running r; least = least_in r; ended = is_ended r }

-- The ending that the code holds, as the rules have it, and the code's for one of the rules.
abbrev pub ending_of : coded.Ending → Ending
ending_of (Value v) = valued v
ending_of (Notice named) = notice named
ending_of Spent = spent

abbrev pub coded_as : Ending → coded.Ending
coded_as (valued v) = Value v
coded_as (notice named) = Notice named
coded_as spent = Spent

-- What is kept of a run that has ended, by whether its mode hides its counts: a value keeps its
-- count, and nothing else does there.
abbrev pub kept : (hidden : Bool) → coded.Ending → (steps : ℕ) → Answered
kept hidden (Value v) steps = record { ending = Value v; steps = steps }
kept hidden (Notice named) steps = cond hidden (record { ending = Notice 0; steps = 0 }) (record { ending = Notice named; steps = steps })
kept hidden Spent steps = cond hidden (record { ending = Notice 0; steps = 0 }) (record { ending = Spent; steps = steps })

-- The ending of an ended run and the total of its steps; of no ended run, spent after 0 steps.
abbrev pub ending_by : State → Ending
ending_by NoRun = spent
ending_by Running = spent
ending_by (Ended a) = ending_of a.ending

abbrev pub total_by : State → ℕ
total_by NoRun = 0
total_by Running = 0
total_by (Ended a) = a.steps

abbrev pub ending_in : Runner → Ending
ending_in r = ending_by r.state

abbrev pub total_in : Runner → ℕ
total_in r = total_by r.state

-- The number of a state: no run, a run under way, and an ended run by the kind of its ending.
abbrev pub ending_number : Ending → ℕ
ending_number (valued v) = 2
ending_number (notice named) = 3
ending_number spent = 4

abbrev pub state_number : State → ℕ
state_number NoRun = 0
state_number Running = 1
state_number (Ended a) = ending_number (ending_of a.ending)

-- The number of a mode: "mode (0 bare, 1 surveillance, 2 high-water)".
abbrev pub mode_number : code.Mode → ℕ
mode_number Bare = 0
mode_number Surveillance = 1
mode_number HighWater = 2

-- The runner of a chart, a mode and a run in it, and a state: every runner is built here.
abbrev pub runner_of : Chart → code.Mode → Run → State → Runner
runner_of c mode q state =
    record {
      header = c.header;
      table = c.table;
      vars = q.vars;
      marks = q.marks;
      counter = q.counter;
      mode = mode;
      at = q.at;
      limit = q.limit;
      steps = q.steps;
      state = state;
    }

-- The run in a runner.
abbrev pub run_in : Runner → Run
run_in r =
    record { vars = r.vars; marks = r.marks; counter = r.counter; mode = mode_held r; at = r.at; limit = r.limit; steps = r.steps }

-- The runner with another run in its mode in the place of its own.
abbrev pub with_run : Run → Runner → Runner
with_run q r = runner_of (chart_in r) r.mode q r.state

-- "When a run ends or is dropped, the variables, their marks and the counter mark become 0", and so
-- does every other number of the run.
abbrev pub no_run : Run
no_run = record { vars = replicate 32 0; marks = replicate 32 0; counter = 0; mode = bare; at = 0; limit = 0; steps = 0 }

-- A runner with a chart and a run under way, and with a chart and nothing else.
abbrev pub under_way : Chart → (mode : ℕ) → Run → Runner
under_way c mode q = runner_of c (code_of mode) q Running

abbrev pub idle : Chart → Runner
idle c = runner_of c Bare no_run NoRun

-- "A new runner holds no chart: its box table is 2,040 zero bytes."
unfoldable pub new_runner : Runner
new_runner = idle (record { header = record { edition = 0; inputs = 0; boxes = 0; first = 0 }; table = replicate 2040 0 })

-- "When a run ends or is dropped": the chart stays, with the ending or without.
unfoldable pub ended_with : Ending → (steps : ℕ) → Runner → Runner
ended_with e steps r = runner_of (chart_in r) Bare no_run (Ended (record { ending = coded_as e; steps = steps }))

unfoldable pub dropped : Runner → Runner
dropped r = idle (chart_in r)

-- A chart as its runs see it, and the one held.
abbrev pub flowchart_of : Chart → Flowchart
flowchart_of c = record { flow = flow c.header.edition c.table; inputs = c.header.inputs; first = c.header.first }

abbrev pub flowchart_in : Runner → Flowchart
flowchart_in r = flowchart_of (chart_in r)

abbrev pub flow_in : Runner → ℕ → Box
flow_in r = (flowchart_in r).flow

-- What m boxes of the run in a runner come to, as it is disclosed; and the runner that has come to
-- it.
abbrev pub ran : ℕ → Runner → Progress
ran m r = disclosed (mode_held r) (run (flow_in r) m (going (run_in r)))

unfoldable pub resumed : Progress → Runner → Runner
resumed (going q) r = with_run q r
resumed (over e steps) r = ended_with e steps r
