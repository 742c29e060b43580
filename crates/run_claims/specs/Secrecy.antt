-- Demand 3's heart: what holds of whole runs on any flowchart, before any call. In a mode that
-- guards a run ends alike whatever the withheld inputs are, and surveillance answers wherever
-- high-water does.
use Rattle.std.specs.Prelude.{ℕ, ◌≤◌, ◌≡◌, List, ◌⊎◌, true, length, get_or}
use Rattle.marks.specs.Marks.{Mode, surveillance, high_water}
use Rattle.machine.specs.Run.{valued}
use Rattle.begin.specs.Begin.{allows}
use Rattle.runs.specs.Whole.{Flowchart, Finish, whole}

-- The modes that guard. 02, b: "The secrecy rule now covers high-water runs as well".
abbrev pub Guarded : Mode → Type 0
Guarded mode = (mode ≡ surveillance) ⊎ (mode ≡ high_water)

-- "the same .. allowed inputs": alike at every place that the allowed set allows, and nothing is
-- asked of the others.
abbrev pub AllowedAlike : ℕ → List ℕ → List ℕ → Type 0
AllowedAlike allowed inputs inputs' = (j : ℕ) → allows allowed j ≡ true → get_or inputs j 0 ≡ get_or inputs' j 0

-- The inputs are as many as the flowchart has, at most 16, as begin asks.
abbrev pub Fits : Flowchart → List ℕ → Type 0
Fits c inputs = (c.inputs ≤ 16) × (length inputs ≡ c.inputs)

-- Two whole runs in one mode that guards, "with the same allowed set, step limit and allowed
-- inputs": the ending, its value or the set that it names, and the steps are the same. The limit is
-- the number that it means.
abbrev pub RunsAreSecret : Type 0
RunsAreSecret =
    (c : Flowchart) (mode : Mode) (inputs inputs' : List ℕ) (allowed limit : ℕ)
    → Guarded mode
    → Fits c inputs
    → Fits c inputs'
    → AllowedAlike allowed inputs inputs'
    → whole c mode inputs allowed limit ≡ whole c mode inputs' allowed limit

-- Where a high-water run ends with a value, the surveillance run "with the same inputs, allowed set
-- and limit" ends with "that value in that number of steps".
abbrev pub RunsKeepPace : Type 0
RunsKeepPace =
    (c : Flowchart) (inputs : List ℕ) (allowed limit v steps : ℕ)
    → let ends : Finish = record { ending = valued v; steps = steps } in
    whole c high_water inputs allowed limit ≡ ends → whole c surveillance inputs allowed limit ≡ ends
