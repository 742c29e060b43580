-- All that the run program prints: "It prints the chart line (k and n), then a line per run."
use Rattle.std.specs.Prelude.{ℕ, ◌+◌, Bool, cond, List, [], ◌∷◌, ◌++◌}
use Rattle.runner.specs.State.{new_runner}
use Rattle.runner.specs.declared.Runner.{Runner}
use Rattle.reply.specs.Reply.{reply_text, is_accepted, loading, respond}
use Rattle.transcript.specs.Lines.{lines_of}

-- So many bytes of a chart file are read at most: `serve` reads it into a buffer of this length.
abbrev pub read_of_file : ℕ
read_of_file = 2561

-- The answers to lines, by a runner that holds a chart, after so many lines: "line number from 1";
-- "A refused line prints its refusal, and the next line is read."
unfoldable pub answers : Runner → (count : ℕ) → List (List ℕ) → List ℕ
answers r count [] = []
answers r count (line ∷ lines) = respond r (count + 1) line ++ answers r (count + 1) lines

-- The text for a chart file, whether it is accepted, and the runner that holds it.
abbrev pub chart_line : List ℕ → List ℕ
chart_line file = reply_text (loading file new_runner).told.reply

abbrev pub is_chart : List ℕ → Bool
is_chart file = is_accepted (loading file new_runner).told.reply

abbrev pub holder : List ℕ → Runner
holder file = (loading file new_runner).next

-- The transcript of a chart file and an input. "A refused chart prints its refusal and ends."
unfoldable pub transcript : (file input : List ℕ) → List ℕ
transcript file input = chart_line file ++ cond (is_chart file) (answers (holder file) 0 (lines_of input)) []
