-- What the run program prints: "It prints the chart line (k and n), then a line per run. .. A
-- refused chart prints its refusal and ends. A refused line prints its refusal, and the next line
-- is read."
use Rattle.std.specs.Prelude.{ℕ, List, [], Bool, true, false, cond, drop, Option, Some, None}
use Rattle.boxes.specs.Bytes.{at}
use Rattle.line.specs.Parsing.{parse}
use Rattle.texts.specs.Printing.{chart_text, value_text, notice_text, spent_text, refused_text}
use Rattle.machine.specs.Run.{Ending, valued, notice, spent}
use Rattle.calls.specs.Calls.{Call, load, begin, advance, answer}
use Rattle.runner.specs.Outcomes.{Reply, done, chart, running, ended, ending, wrote, refused, Outcome, call}
use Rattle.runner.specs.declared.Runner.{Runner}

unfoldable pub ending_text : Ending → ℕ → List ℕ
ending_text (valued value) steps = value_text value steps
ending_text (notice named) steps = notice_text steps named
ending_text spent steps = spent_text steps

-- The text of a reply; the program prints no other replies than load's, answer's and refusals.
unfoldable pub reply_text : Reply → List ℕ
reply_text done = []
reply_text (chart inputs boxes) = chart_text inputs boxes
reply_text (running steps) = []
reply_text (ended steps) = []
reply_text (ending e steps) = ending_text e steps
reply_text (wrote bytes) = []
reply_text (refused number detail) = refused_text number detail

unfoldable pub is_accepted : Reply → Bool
is_accepted done = true
is_accepted (chart inputs boxes) = true
is_accepted (running steps) = true
is_accepted (ended steps) = true
is_accepted (ending e steps) = true
is_accepted (wrote bytes) = true
is_accepted (refused number detail) = false

-- The chart file.
abbrev pub loading : List ℕ → Runner → Outcome
loading file r = call (load file) r

-- "mode, allowed set, limit, inputs": the begin that the numbers of a line ask for.
abbrev pub begin_of : List ℕ → Call
begin_of ns = begin (at ns 0) (drop 3 ns) (at ns 1) (at ns 2)

-- A run to its end, by an amount that no limit exceeds.
abbrev pub run_out : Runner → Runner
run_out r = (call (advance 65535) r).next

-- What is told of a begin that has been asked for: its refusal, or the ending of the run.
unfoldable pub run_reply : Outcome → Reply
run_reply o = cond (is_accepted o.told.reply) (call answer (run_out o.next)).told.reply o.told.reply

-- The text of it.
abbrev pub answered : Outcome → List ℕ
answered o = reply_text (run_reply o)

-- The text of the numbers of a line. "11: the run program's line is ill-formed. Detail: line number
-- from 1." A line that is not has three numbers or more.
unfoldable pub responded : Runner → (number : ℕ) → Option (List ℕ) → List ℕ
responded r number None = refused_text 11 number
responded r number (Some ns) = answered (call (begin_of ns) r)

-- The text of a line.
unfoldable pub respond : Runner → (number : ℕ) → (line : List ℕ) → List ℕ
respond r number line = responded r number (parse line)
