-- Claims about the lines of the run program.
use Rattle.std.specs.Prelude.{ℕ, ◌≡◌, List, false}
use Rattle.calls.specs.Calls.{answer}
use Rattle.runner.specs.declared.Runner.{Runner}
use Rattle.runner.specs.State.{chart_in, is_running}
use Rattle.runner.specs.Outcomes.{call}
use Rattle.call_claims.specs.Lists.{Accepted}
use Rattle.reply.specs.Reply.{begin_of, run_out, respond}

-- A line whose begin is accepted prints an ending, in every mode: the program advances by 65,535,
-- which no limit exceeds, and one advance by the limit or more ends a run.
abbrev pub LinesEnd : Type 0
LinesEnd = (r : Runner) (ns : List ℕ) → Accepted (begin_of ns) r → Accepted answer (run_out (call (begin_of ns) r).next)

-- Lines do not depend on each other. Of two runners that hold one chart, neither in a run, a line
-- prints the same; so it is the same whether each line is run by the runner that loaded the chart
-- or by the one that the line before it left.
abbrev pub LinesApart : Type 0
LinesApart =
    (r r' : Runner)
    → chart_in r ≡ chart_in r'
    → is_running r ≡ false
    → is_running r' ≡ false
    → (number : ℕ) (line : List ℕ)
    → respond r number line ≡ respond r' number line
