-- The checks of both editions (02, d), in one table: files with their own checks, with the other
-- edition's, with wrong letters or another edition, and with their blocks out of order.
use Rattle.std.specs.Prelude.{ℕ, min, ◌≡◌, List, [], ◌∷◌, ◌++◌, set}
use Rattle.chart_claims.specs.Exchanged.{rearranged, exchanged}
use Rattle.example_charts.specs.Charts.{block, front, assign, halts, boxes_e_two, five_blocks, head_one, head_two, first_boxes, other_boxes, three_one, three_two}
use Rattle.example_charts.specs.Cases.{Case, answers, returns, checks, accepted, refused, Table}

-- 51 boxes whose sum is 65,025.
abbrev large_sum : List ℕ
large_sum = assign 26 0 0 0 1 40 ++ halts 49 ++ (1 ∷ 31 ∷ 0 ∷ 0 ∷ 0 ∷ 1 ∷ 0 ∷ 0 ∷ 0 ∷ 22 ∷ [])

unfoldable pub check_cases : List Case
check_cases =
    -- edition 2; with blocks 1 and 2 exchanged; with edition 1's checks in both, and in block 2
    -- alone
    answers three_two (accepted 2 1 102 0)
    ∷ answers (head_two ++ other_boxes 1 154 ++ first_boxes 103 152) (refused 2 1)
    ∷ answers (head_two ++ first_boxes 104 150 ++ other_boxes 3 150) (refused 2 1)
    ∷ answers (head_two ++ first_boxes 103 152 ++ other_boxes 3 150) (refused 2 2)
    -- edition 1; with blocks 1 and 2 exchanged, which is a chart too; with edition 2's checks
    ∷ answers three_one (accepted 1 1 102 0)
    ∷ answers (head_one ++ other_boxes 3 150 ++ first_boxes 104 150) (accepted 1 1 102 0)
    ∷ answers (head_one ++ first_boxes 103 152 ++ other_boxes 1 154) (refused 2 1)
    -- refusal 2 comes before 3, so byte 4 alone says what is added: a wrong letter; a block 0 that
    -- is 0 but for byte 4; edition 3, which adds nothing
    ∷ answers (block (set (front 2 1 102 0) 0 71) 2 6 ++ first_boxes 103 152 ++ other_boxes 1 154) (refused 3 0)
    ∷ answers (block (set (front 2 1 102 0) 0 71) 2 6 ++ first_boxes 104 150 ++ other_boxes 3 150) (refused 2 1)
    ∷ answers (block (0 ∷ 0 ∷ 0 ∷ 0 ∷ 2 ∷ []) 10 0 ++ block [] 255 1) (refused 3 0)
    ∷ answers (block (0 ∷ 0 ∷ 0 ∷ 0 ∷ 2 ∷ []) 10 0 ++ block [] 0 0) (refused 2 1)
    ∷ answers (block (front 3 1 102 0) 6 6 ++ first_boxes 103 152 ++ other_boxes 1 154) (refused 2 1)
    ∷ answers (block (front 3 1 102 0) 6 6 ++ first_boxes 104 150 ++ other_boxes 3 150) (refused 3 0)
    -- five blocks: with 2 and 3 exchanged, which differ in their checks alone; with block 2 three
    -- times
    ∷ answers (exchanged 2 3 five_blocks) (refused 2 2)
    ∷ answers (rearranged (min 2) five_blocks) (refused 2 3)
    -- 65,025 and 511, of which the modulus is taken; byte 509, the last of a constant, is 22
    ∷ answers (block (front 2 1 51 0) 156 4 ++ block large_sum 0 0) (accepted 2 1 51 0)
    -- E's block of boxes as block 1 of edition 2
    ∷ checks 511 boxes_e_two 648
    -- written back
    ∷ returns three_one
    ∷ returns three_two
    ∷ []

abbrev pub CheckCases : Type 0
CheckCases = Table 19 check_cases

-- What is exchanged: whole blocks, with their checks, here 2 and 4 of five.
abbrev pub BlocksExchanged : Type 0
BlocksExchanged =
    exchanged 2 4 five_blocks
    ≡ block (front 2 2 204 0) 209 8
    ++ block (assign 31 11 0 1 1 0 ++ halts 50) 106 152
    ++ block (halts 50 ++ assign 31 2 0 1 203 0) 4 110
    ++ block (halts 51) 0 156
    ++ block (halts 51) 1 154
