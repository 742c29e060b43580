-- Demand 3, both halves, on the definition of the calls that the code's contracts cite.
use Rattle.std.specs.Prelude.{ℕ, ◌≤◌, ◌≡◌, length}
use mathlib.Core.List.{List, [], Memᴰ}
use Rattle.marks.specs.Marks.{mode_of}
use Rattle.machine.specs.Run.{valued}
use Rattle.begin.specs.Begin.{effective}
use Rattle.run_claims.specs.Secrecy.{Guarded, AllowedAlike}
use Rattle.calls.specs.Calls.{Call, begin, answer, write_back}
use Rattle.runner.specs.declared.Runner.{Runner}
use Rattle.runner.specs.Outcomes.{ending, Told, call}
use Rattle.call_claims.specs.Lists.{Reached, Accepted, begun, tells, final, AllContinue, asked, Ends}

-- "They hold one chart: write back, with room enough, would give the same file from each." A file
-- has at most 2,560 bytes.
abbrev pub HoldOneChart : Runner → Runner → Type 0
HoldOneChart r r' =
    (buffer : List ℕ)
    → 2560 ≤ length buffer
    → (call (write_back buffer) r).told ≡ (call (write_back buffer) r').told

-- The first half, the secrecy rule, "a single claim about a whole list of calls, not one for each
-- call". "Take two runners that hold one chart, whatever calls made them, and on each an accepted
-- surveillance begin with the same allowed set, step limit and allowed inputs." "For every list of
-- calls .. given alike to both, .. both have by its end told exactly the same"; "In both halves
-- limit 0 counts as the number it means." 02, b: "The secrecy rule now covers high-water runs as
-- well, both begins being of one mode." 02, g: "The secrecy rule covers kind 4, and the rewriter
-- joins the calls of its lists": it is of any chart and of every call.
abbrev pub Noninterference : Type 0
Noninterference =
    (r r' : Runner)
    → Reached r
    → Reached r'
    → HoldOneChart r r'
    → (mode : ℕ)
    → Guarded (mode_of mode)
    → (inputs inputs' : List ℕ) (allowed limit limit' : ℕ)
    → Accepted (begin mode inputs allowed limit) r
    → Accepted (begin mode inputs' allowed limit') r'
    → effective limit ≡ effective limit'
    → AllowedAlike allowed inputs inputs'
    → (cs : List Call)
    → tells cs (begun mode inputs allowed limit r) ≡ tells cs (begun mode inputs' allowed limit' r')

-- What an answer tells of a run that ended with a value; no other call replies with an ending.
abbrev pub tells_value : ℕ → ℕ → Told
tells_value v steps = record { reply = ending (valued v) steps; buffer = [] }

-- "in some list of advance, answer, write back and refused calls after a .. begin an answer tells a
-- value".
abbrev pub SomeAnswer : Runner → (v steps : ℕ) → Type 0
SomeAnswer start v steps = (cs : List Call) × AllContinue cs start × Memᴰ (tells_value v steps) (tells cs start)

-- "every list of such calls whose advances add up to the limit or more ends the run, and after each
-- list that ends it an answer tells that value in that number of steps", after a begin.
abbrev pub AnswersAlways : (start : Runner) (limit v steps : ℕ) → Type 0
AnswersAlways start limit v steps =
    (cs : List Call)
    → AllContinue cs start
    → (limit ≤ asked cs → Ends cs start) × (Ends cs start → (call answer (final cs start)).told ≡ tells_value v steps)

-- The second half: "suppose that in some list .. after a high-water begin an answer tells a value".
-- "Then after a surveillance begin on that chart with the same inputs, allowed set and limit" an
-- answer always does.
abbrev pub AnswersAsHighWater : Type 0
AnswersAsHighWater =
    (r r' : Runner)
    → Reached r
    → Reached r'
    → HoldOneChart r r'
    → (inputs : List ℕ) (allowed limit limit' : ℕ)
    → Accepted (begin 2 inputs allowed limit) r
    → Accepted (begin 1 inputs allowed limit') r'
    → effective limit ≡ effective limit'
    → (v steps : ℕ)
    → SomeAnswer (begun 2 inputs allowed limit r) v steps
    → AnswersAlways (begun 1 inputs allowed limit' r') (effective limit') v steps

-- Demand 3 whole.
abbrev pub Demand3 : Type 0
Demand3 = Noninterference × AnswersAsHighWater
