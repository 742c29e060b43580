-- What load's input checks answer: charts A to E, and files that break one rule each or several.
-- Files of edition 2 are in `Checks.antt`, and in `Editions.antt` of `example_runs`.
use Rattle.std.specs.Prelude.{ℕ, List, [], ◌∷◌, ◌++◌, take, replicate, set}
use Rattle.example_charts.specs.Charts.{block, front, assign, halt, halts, chart_a, chart_b, chart_c, chart_d, head_e, chart_e, with_head}
use Rattle.example_charts.specs.Cases.{Case, answers, accepted, refused, Table}

-- Chart E with other boxes.
abbrev with_boxes : List ℕ → ℕ → ℕ → List ℕ
with_boxes boxes low high = head_e ++ block boxes low high

-- A chart of 52 halts, with another block 2.
abbrev with52 : List ℕ → ℕ → ℕ → List ℕ
with52 boxes low high = block (front 1 1 52 0) 158 4 ++ block (halts 51) 3 150 ++ block boxes low high

unfoldable pub file_cases : List Case
file_cases =
    answers chart_a (accepted 1 2 3 0)
    ∷ answers chart_b (accepted 1 1 4 0)
    ∷ answers chart_c (accepted 1 0 1 0)
    ∷ answers chart_d (accepted 1 1 2 0)
    ∷ answers chart_e (accepted 1 1 2 0)
    ∷ answers (with52 halt 3 0) (accepted 1 1 52 0)
    -- 1: no bytes; a byte too few
    ∷ answers [] (refused 1 0)
    ∷ answers (take 1023 chart_e) (refused 1 0)
    -- 2: block 1 alone; both blocks, and the letters too
    ∷ answers (set chart_e 518 6) (refused 2 1)
    ∷ answers (set (set chart_e 518 6) 0 71) (refused 2 0)
    ∷ answers (with52 halt 4 0) (refused 2 2)
    -- 3: a letter
    ∷ answers (with_head (set (front 1 1 2 0) 0 71) 65 3) (refused 3 0)
    -- 4: k 17; no box; a first box that is none; byte 8
    ∷ answers (with_head (front 1 17 2 0) 160 3) (refused 4 0)
    ∷ answers (with_head (front 1 1 0 0) 50 3) (refused 4 0)
    ∷ answers (with_head (front 1 1 2 2) 80 3) (refused 4 0)
    ∷ answers (with_head (front 1 1 2 0 ++ (1 ∷ [])) 73 3) (refused 4 0)
    -- 5: 52 boxes in 1,024 bytes; 51 boxes in 1,536 bytes
    ∷ answers (with_head (front 1 1 52 0) 158 4) (refused 5 0)
    ∷ answers (with_head (front 1 1 51 0) 151 4 ++ replicate 512 0) (refused 5 0)
    -- 6: target 15; a right operand that is not read; a constant that is not used; a place past the
    -- last box
    ∷ answers (with_boxes (assign 15 0 0 0 1 5 ++ halt) 105 0) (refused 6 0)
    ∷ answers (with_boxes (assign 31 1 0 16 1 0 ++ halt) 185 0) (refused 6 0)
    ∷ answers (with_boxes (assign 31 1 0 0 1 1 ++ halt) 112 0) (refused 6 0)
    ∷ answers (with_boxes (assign 31 0 0 0 1 5 ++ halt ++ halt) 200 0) (refused 6 2)
    ∷ answers (with52 (4 ∷ []) 4 0) (refused 6 51)
    ∷ answers (with52 (halt ++ (1 ∷ [])) 14 0) (refused 6 52)
    ∷ []

abbrev pub FileExamples : Type 0
FileExamples = Table 24 file_cases
