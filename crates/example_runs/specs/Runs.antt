-- The cases with (P) in document 01, in one table: runs from files, through the calls; results of
-- operations; and E's checks. Then the inputs that notices name (02, a), and what high-water runs
-- tell (02, b).
use Rattle.std.specs.Prelude.{ℕ, ◌^◌, ◌<◌, List, [], ◌∷◌, replicate}
use Rattle.marks.specs.Marks.{bare, surveillance, high_water}
use Rattle.machine.specs.Run.{valued, notice, spent}
use Rattle.example_charts.specs.Charts.{chart_a, chart_b, chart_c, chart_d, head_e, boxes_e, chart_e, chart_pair, chart_chain, chart_twice, chart_sum}
use Rattle.example_charts.specs.Cases.{Case, runs, operates, checks, Table}

-- The cases, where x is the input of D and of E, of which 01 says nothing. The sets that notices
-- carry are 02's, a; and by 02, b, "01's charts .. change accordingly": a high-water notice tells 0
-- steps.
unfoldable pub paper_cases : ℕ → List Case
paper_cases x =
    -- "A .. Inputs 7 and 9, allowed 2. (P) Surveillance: value 9, 3 steps. (P) High-water: notice,
    -- 3."
    runs chart_a surveillance (7 ∷ 9 ∷ []) 2 0 (valued 9) 3
    ∷ runs chart_a high_water (7 ∷ 9 ∷ []) 2 0 (notice 0) 0
    -- "B .. Allowed 0. (P) Surveillance, inputs 0 and 4: notice, 1. (P) High-water: input 0 notice
    -- 3, input 4 notice 4. (P) Bare, input 4: limit 3 spent 3, limit 4 value 1."
    ∷ runs chart_b surveillance (0 ∷ []) 0 0 (notice 1) 1
    ∷ runs chart_b surveillance (4 ∷ []) 0 0 (notice 1) 1
    ∷ runs chart_b high_water (0 ∷ []) 0 0 (notice 0) 0
    ∷ runs chart_b high_water (4 ∷ []) 0 0 (notice 0) 0
    ∷ runs chart_b bare (4 ∷ []) 0 3 spent 3
    ∷ runs chart_b bare (4 ∷ []) 0 4 (valued 1) 4
    -- "D .. (P) Surveillance, allowed 0: notice, 2; allowed 1: value 0, 2."
    ∷ runs chart_d surveillance (x ∷ []) 0 0 (notice 1) 2
    ∷ runs chart_d surveillance (x ∷ []) 1 0 (valued 0) 2
    -- "E .. (P) Surveillance, allowed 0: value 5, 2. (P) Checks: block 0 has 832, block 1 has 137."
    ∷ runs chart_e surveillance (x ∷ []) 0 0 (valued 5) 2
    ∷ checks 0 head_e 832
    ∷ checks 0 boxes_e 137
    -- "(P) 4,294,967,295 plus 1 is 0; 0 minus 1 is 4,294,967,295; 7 by 0 leaves quotient 0,
    -- remainder 7; one bits of 4,294,967,295: 32."
    ∷ operates 1 2 4294967295 1 0
    ∷ operates 1 3 0 1 4294967295
    ∷ operates 1 5 7 0 0
    ∷ operates 1 6 7 0 7
    ∷ operates 1 9 4294967295 0 32
    ∷ []

-- The eighteen cases with (P) in 01, whatever 32-bit number is the input of D and of E.
abbrev pub PaperCases : Type 0
PaperCases = (x : ℕ) → x < 2 ^ 32 → Table 18 (paper_cases x)

-- The inputs that notices name (02, a).
unfoldable pub naming_cases : List Case
naming_cases =
    -- "for chart D, the line `1 0 0 7` gives `notice steps 2 inputs 1`"
    runs chart_d surveillance (7 ∷ []) 0 0 (notice 1) 2
    -- inputs 0 and 2, both withheld; input 0 allowed; high-water, which halts with the counter's
    -- mark
    ∷ runs chart_pair surveillance (1 ∷ 2 ∷ 3 ∷ []) 0 0 (notice 5) 1
    ∷ runs chart_pair surveillance (1 ∷ 2 ∷ 3 ∷ []) 1 0 (notice 4) 1
    ∷ runs chart_pair high_water (1 ∷ 2 ∷ 3 ∷ []) 0 0 (notice 0) 0
    -- a sum of inputs 0 and 15
    ∷ runs chart_sum surveillance (replicate 16 7) 0 0 (notice 32769) 2
    -- a chain of copies of input 1; one variable read twice; input 0 overwritten by input 1
    ∷ runs chart_chain surveillance (7 ∷ 9 ∷ []) 0 0 (notice 2) 4
    ∷ runs chart_twice surveillance (7 ∷ 9 ∷ []) 0 0 (notice 2) 1
    ∷ runs chart_a surveillance (7 ∷ 9 ∷ []) 0 0 (notice 2) 3
    ∷ []

abbrev pub NamingCases : Type 0
NamingCases = Table 8 naming_cases

-- What high-water runs tell (02, b): a value with its count, and else "notice, steps 0, inputs 0".
unfoldable pub hidden_cases : List Case
hidden_cases =
    -- charts A and E with a value, of an allowed input and of none
    runs chart_a high_water (7 ∷ 9 ∷ []) 3 0 (valued 9) 3
    ∷ runs chart_e high_water (7 ∷ []) 0 0 (valued 5) 2
    -- E at its limit, and with one less: spent elsewhere
    ∷ runs chart_e high_water (7 ∷ []) 0 2 (valued 5) 2
    ∷ runs chart_e high_water (7 ∷ []) 0 1 (notice 0) 0
    ∷ runs chart_e surveillance (7 ∷ []) 0 1 spent 1
    -- C, which halts nowhere, at limits 1 and 3
    ∷ runs chart_c high_water [] 0 1 (notice 0) 0
    ∷ runs chart_c high_water [] 0 3 (notice 0) 0
    ∷ runs chart_c surveillance [] 0 3 spent 3
    -- B at limit 3: its notice comes first with input 0, and with input 4 the limit
    ∷ runs chart_b high_water (0 ∷ []) 0 3 (notice 0) 0
    ∷ runs chart_b high_water (4 ∷ []) 0 3 (notice 0) 0
    -- B with its input allowed: no notice, and the counts are the value's own
    ∷ runs chart_b high_water (0 ∷ []) 1 0 (valued 1) 3
    ∷ runs chart_b high_water (4 ∷ []) 1 0 (valued 1) 4
    ∷ []

abbrev pub HiddenCases : Type 0
HiddenCases = Table 12 hidden_cases
