-- The converter (02, f), in one table: charts of both editions, buffers too short, as long as the
-- file and longer, and refusals by 14, by 12 and by load's checks 2 and 6.
use Rattle.std.specs.Prelude.{Ok, Err, ℕ, List, [], ◌∷◌, ◌++◌, replicate, set}
use Rattle.block.specs.Refusing.{refusal}
use Rattle.example_charts.specs.Charts.{block, front, assign, decide, halt, halts, chart_a, chart_a_two, chart_d, head_e, sum_two, zeros_one, zeros_two, three_one, three_two}
use Rattle.example_charts.specs.Cases.{Case, converts, Table}

-- A sum in the last box, which no path reaches; and a difference and a sum in boxes 52 and 53 of
-- 54.
abbrev last_sum : List ℕ
last_sum = block (front 1 1 2 0) 64 3 ++ block (halt ++ assign 31 2 0 0 0 0) 156 1

abbrev several : List ℕ
several =
    block (front 2 0 54 0) 171 4 ++ block (halts 51) 2 152 ++ block (halt ++ assign 31 3 16 16 0 0 ++ assign 31 2 16 16 0 0) 116 13

-- The first box is box 1, a decision whose comparison is 2.
abbrev deciding : (edition low low' high' : ℕ) → List ℕ
deciding edition low low' high' = block (front edition 2 2 1) low 3 ++ block (halt ++ decide 2 0 1 0 0) low' high'

-- Every other operation, and every kind that both editions have.
abbrev all_kinds : List ℕ
all_kinds =
    assign 31 0 0 0 1 5
    ++ assign 31 1 16 0 2 0
    ++ assign 31 4 16 16 3 0
    ++ assign 31 5 16 16 4 0
    ++ assign 31 6 16 16 5 0
    ++ assign 31 7 16 16 6 0
    ++ assign 31 8 16 16 7 0
    ++ assign 31 9 16 0 8 0
    ++ assign 31 10 16 0 9 0
    ++ decide 2 16 16 10 10
    ++ halt

-- A difference in box 0, and a box that breaks a rule after it.
abbrev six_first : List ℕ
six_first = head_e ++ block (assign 31 3 0 0 1 0 ++ (4 ∷ [])) 122 0

-- A file that is written into as many bytes; and one that is refused, with the buffer as it was.
abbrev written : (file other : List ℕ) → (bytes : ℕ) → Case
written file other bytes = converts file (replicate bytes 9) (Ok bytes) other

abbrev refused : (file buffer : List ℕ) → (number detail : ℕ) → Case
refused file buffer number detail = converts file buffer (Err (refusal number detail)) buffer

unfoldable pub conversion_cases : List Case
conversion_cases =
    -- chart A to edition 2, and back into a longer buffer, whose other bytes stay
    written chart_a chart_a_two 1024
    ∷ converts chart_a_two (replicate 1024 9 ++ (5 ∷ 6 ∷ 7 ∷ [])) (Ok 1024) (chart_a ++ (5 ∷ 6 ∷ 7 ∷ []))
    -- 12: a byte short
    ∷ refused chart_a (replicate 1023 9) 12 0
    -- 14: operation 3, before 12; operation 2; operation 11 in both editions; the last box, which
    -- no path reaches; the first of two
    ∷ refused chart_d (9 ∷ 9 ∷ []) 14 0
    ∷ refused sum_two (replicate 1024 9) 14 0
    ∷ refused zeros_one (replicate 1024 9) 14 0
    ∷ refused zeros_two (replicate 1024 9) 14 0
    ∷ refused last_sum (replicate 1024 9) 14 1
    ∷ refused several (replicate 1536 9) 14 52
    -- a decision whose comparison is 2; every other operation; three blocks
    ∷ written (deciding 2 83 65 2) (deciding 1 78 66 0) 1024
    ∷ written (block (front 1 0 11 0) 121 3 ++ block all_kinds 155 129) (block (front 2 0 11 0) 126 3 ++ block all_kinds 154 131) 1024
    ∷ written three_two three_one 1536
    -- 2 and 6 come before 14
    ∷ refused (set chart_d 518 6) (9 ∷ 9 ∷ []) 2 1
    ∷ refused six_first (9 ∷ 9 ∷ []) 6 1
    ∷ []

abbrev pub ConversionCases : Type 0
ConversionCases = Table 14 conversion_cases
