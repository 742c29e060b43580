-- How a mark is set (02, e), in one table: the inputs to keep of the old set and to take of the
-- sets read, the old set, the sets read, and the new set, all of 16 inputs.
use Rattle.std.specs.Prelude.{ℕ, List, [], ◌∷◌}
use Rattle.marks.specs.Marks.{bare, surveillance, high_water, masks_of}
use Rattle.example_charts.specs.Cases.{Case, sets, Table}

-- All is taken of the sets read.
abbrev keeps : (keep before : ℕ) (read : List ℕ) (set : ℕ) → Case
keeps keep before read set = sets (record { keep = keep; take = 65535 }) before read set

unfoldable pub keeping_cases : List Case
keeping_cases =
    -- every way in which an input can be in the number, in the old set and in a set read
    keeps 170 204 (240 ∷ []) 248
    -- one input of the old set is kept: the last, the first, one in the middle beside two sets read
    ∷ keeps 32768 65535 [] 32768
    ∷ keeps 1 65535 (32768 ∷ 0 ∷ []) 32769
    ∷ keeps 256 257 (2 ∷ 4 ∷ []) 262
    -- what is read is there, in the number or not; twice is once
    ∷ keeps 21845 0 (43690 ∷ 2 ∷ []) 43690
    ∷ keeps 0 65535 (1 ∷ 1 ∷ 32768 ∷ []) 32769
    ∷ keeps 65535 32769 (32769 ∷ []) 32769
    -- the old set is inputs 0 and 2, and the sets read are of 1 and of 3, in each mode
    ∷ sets (masks_of bare) 5 (2 ∷ 8 ∷ []) 5
    ∷ sets (masks_of surveillance) 5 (2 ∷ 8 ∷ []) 10
    ∷ sets (masks_of high_water) 5 (2 ∷ 8 ∷ []) 15
    ∷ []

abbrev pub KeepingCases : Type 0
KeepingCases = Table 10 keeping_cases
