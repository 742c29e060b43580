-- The seven calls, by one definition: what refuses a call, and else what it tells, the lent buffer
-- and the runner afterwards.
use Rattle.std.specs.Prelude.{Ok, Err, ℕ, List, [], cond, Result, ⊤}
use Rattle.format.specs.File.{header_of}
use Rattle.block.specs.declared.Refusal.{Refusal}
use Rattle.chart.specs.Chart.{Chart, chart_of}
use Rattle.chart.specs.WriteBack.{file_length, with_file}
use Rattle.rewrite.specs.Rewrite.{rewritten_chart}
use Rattle.marks.specs.Marks.{Mode, mode_of, hides}
use Rattle.machine.specs.Run.{Run, Ending, Progress, going, over}
use Rattle.begin.specs.Begin.{effective}
use Rattle.runs.specs.Whole.{Flowchart, start_of}
use Rattle.calls.specs.Calls.{Call, load, begin, advance, answer, abandon, write_back, rewrite, check}
use Rattle.runner.specs.declared.Runner.{Runner}
use Rattle.runner.specs.State.{chart_in, flowchart_in, standing_of, mode_held, ending_in, total_in, under_way, idle, dropped, ran, resumed}

-- What a call replies: load "tells k and n"; "Begin and abandon tell only that they were done"; the
-- rewriter "tells only that it was done"; advance "tells "running" or "ended", and the steps so
-- far"; answer "tells the ending: its kind, its steps and the value if there is one", and
-- the set that a notice carries; write back "tells the file's length"; a refusal "gives its number
-- and a detail".
pub data Reply : Type 0 where
  done : Reply
  chart : (inputs boxes : ℕ) → Reply
  running : (steps : ℕ) → Reply
  ended : (steps : ℕ) → Reply
  ending : Ending → (steps : ℕ) → Reply
  wrote : (bytes : ℕ) → Reply
  refused : (number detail : ℕ) → Reply

-- "Told is what "The runner" says a call tells, a refusal's number and detail, and every byte of a
-- lent buffer after its call."
pub record Told : Type 0 where
  pub reply : Reply
  pub buffer : List ℕ

-- What a call does: what it tells, and the runner that it hands back.
pub record Outcome : Type 0 where
  pub told : Told
  pub next : Runner

abbrev pub outcome : Reply → (buffer : List ℕ) → Runner → Outcome
outcome reply buffer next = record { told = record { reply = reply; buffer = buffer }; next = next }

-- What a call does to the run and the chart of a runner: it runs boxes, keeps all as it is, begins
-- a run on the chart held, drops the run, or puts another chart in the place of the one held.
pub data Effect : Type 0 where
  runs : (m : ℕ) → Effect
  keeps : Effect
  begins : (mode : ℕ) → (Flowchart → Run) → Effect
  drops : Effect
  replaces : (Chart → Chart) → Effect

-- Load: "The chart replaces the old one". Advance "runs m boxes". Answer: "It changes nothing."
-- Abandon "drops the run under way". The rewriter: "The new chart is then held".
abbrev pub effect : Call → Effect
effect (load file) = replaces (λ held. chart_of file)
effect (begin mode inputs allowed limit) = begins mode (λ c. start_of c (mode_of mode) inputs allowed (effective limit))
effect (advance m) = runs m
effect answer = keeps
effect abandon = drops
effect (write_back buffer) = keeps
effect rewrite = replaces rewritten_chart

-- The runner after it. Begin: "An earlier ending is forgotten." Abandon: "the chart stays". Load
-- and the rewriter: "an ended run is forgotten".
unfoldable pub after : Effect → Runner → Runner
after (runs m) r = resumed (ran m r) r
after keeps r = r
after (begins mode start) r = under_way (chart_in r) mode (start (flowchart_in r))
after drops r = dropped r
after (replaces by) r = idle (by (chart_in r))

-- What advance tells of what the run has come to. 02, b: "Advance in this mode tells only "ended"
-- with 0 steps", high-water.
unfoldable pub progress_reply : Mode → Progress → Reply
progress_reply mode (going q) = running q.steps
progress_reply mode (over e steps) = ended (cond (hides mode) 0 steps)

-- The reply of a call that is not refused.
unfoldable pub says : Call → Runner → Reply
says (load file) r = chart (header_of file).inputs (header_of file).boxes
says (begin mode inputs allowed limit) r = done
says (advance m) r = progress_reply (mode_held r) (ran m r)
says answer r = ending (ending_in r) (total_in r)
says abandon r = done
says (write_back buffer) r = wrote (file_length r.header)
says rewrite r = done

-- The buffer lent to a call to be written, after something has been done to it. A file and inputs
-- are lent to be read, and no byte of them changes.
abbrev pub lent_as : (List ℕ → List ℕ) → Call → List ℕ
lent_as leave (load file) = []
lent_as leave (begin mode inputs allowed limit) = []
lent_as leave (advance m) = []
lent_as leave answer = []
lent_as leave abandon = []
lent_as leave (write_back buffer) = leave buffer
lent_as leave rewrite = []

abbrev pub lent : Call → List ℕ
lent c = lent_as (λ buffer. buffer) c

-- What a refusal tells.
abbrev pub turned_away : Refusal → Reply
turned_away x = refused x.number x.detail

-- The outcome of a call by its verdict: a refusal changes neither the runner nor a byte of the lent
-- buffer.
unfoldable pub outcome_by : Result ⊤ Refusal → Call → Runner → Outcome
outcome_by (Ok _) c r = outcome (says c r) (lent_as (with_file r.header r.table) c) (after (effect c) r)
outcome_by (Err x) c r = outcome (turned_away x) (lent c) r

unfoldable pub call : Call → Runner → Outcome
call c r = outcome_by (check c (standing_of r)) c r
