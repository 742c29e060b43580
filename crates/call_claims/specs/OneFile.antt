-- Demand 3 as the callers of one file meet it. It follows by giving demand 3 its values, so that a
-- narrower demand 3 would be noticed here.
use Rattle.std.specs.Prelude.{ℕ, ◌≡◌, List}
use Rattle.marks.specs.Marks.{mode_of}
use Rattle.begin.specs.Begin.{limit_for_none}
use Rattle.calls.specs.Calls.{Call, load, begin}
use Rattle.runner.specs.declared.Runner.{Runner}
use Rattle.runner.specs.Outcomes.{call}
use Rattle.call_claims.specs.Lists.{Reached, Accepted, begun, tells, final}
use Rattle.call_claims.specs.Charts.{AllKeepChart}
use Rattle.run_claims.specs.Secrecy.{AllowedAlike, Guarded}

-- A runner that has loaded a file and then taken a list of calls.
abbrev pub after_load : List ℕ → List Call → Runner → Runner
after_load file past r = final past (call (load file) r).next

-- "Take two runners that hold one chart, whatever calls made them": both have loaded one file,
-- nothing is asked of what came before it, and of the calls since a condition. Both are begun in
-- one mode that guards, one with limit 0 and the other with the number that it means, and withheld
-- inputs differ.
abbrev pub OneFileWhere : (List ℕ → List Call → Runner → Type 0) → Type 0
OneFileWhere Holds =
    (r r' : Runner) (file : List ℕ) (past past' : List Call)
    → Reached r
    → Reached r'
    → Accepted (load file) r
    → Accepted (load file) r'
    → Holds file past r
    → Holds file past' r'
    → (mode : ℕ)
    → Guarded (mode_of mode)
    → (inputs inputs' : List ℕ) (allowed : ℕ)
    → AllowedAlike allowed inputs inputs'
    → Accepted (begin mode inputs allowed 0) (after_load file past r)
    → Accepted (begin mode inputs' allowed limit_for_none) (after_load file past' r')
    → (cs : List Call)
    → tells cs (begun mode inputs allowed 0 (after_load file past r)) ≡ tells cs (begun mode inputs' allowed limit_for_none (after_load file past' r'))

-- Nothing is asked of the calls since but that none of them puts another chart in its place.
abbrev pub NoOtherChart : List ℕ → List Call → Runner → Type 0
NoOtherChart file past r = AllKeepChart past (call (load file) r).next

abbrev pub OneFile : Type 0
OneFile = OneFileWhere NoOtherChart
