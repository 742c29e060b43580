-- The two editions (02, c), in one table: what their operations give, alone and through the calls,
-- what their files are answered, and that a file of edition 2 is written back to itself.
use Rattle.std.specs.Prelude.{List, [], ◌∷◌, ◌++◌, set}
use Rattle.marks.specs.Marks.{bare, surveillance, high_water}
use Rattle.machine.specs.Run.{valued, notice}
use Rattle.example_charts.specs.Charts.{block, front, assign, halt, boxes_e_two, operating, sum_one, sum_two, difference_one, difference_two, zeros_one, zeros_two, five_blocks, with_head}
use Rattle.example_charts.specs.Cases.{Case, answers, returns, runs, operates, accepted, refused, Table}

unfoldable pub edition_cases : List Case
edition_cases =
    -- 4,294,967,295 plus 1, in edition 1 and in edition 2; and a sum that is not larger
    runs sum_one bare (4294967295 ∷ 1 ∷ []) 0 0 (valued 0) 2
    ∷ runs sum_two bare (4294967295 ∷ 1 ∷ []) 0 0 (valued 4294967295) 2
    ∷ runs sum_two bare (4294967293 ∷ 1 ∷ []) 0 0 (valued 4294967294) 2
    -- 0 minus 1, 3 minus 5; and 5 minus 3, where right does not exceed left
    ∷ runs difference_one bare (0 ∷ 1 ∷ []) 0 0 (valued 4294967295) 2
    ∷ runs difference_two bare (0 ∷ 1 ∷ []) 0 0 (valued 0) 2
    ∷ runs difference_one bare (3 ∷ 5 ∷ []) 0 0 (valued 4294967294) 2
    ∷ runs difference_two bare (3 ∷ 5 ∷ []) 0 0 (valued 0) 2
    ∷ runs difference_two bare (5 ∷ 3 ∷ []) 0 0 (valued 2) 2
    -- operation 11: edition 1 reads left alone, edition 2 gives the lesser of its trailing zeros
    -- and right
    ∷ runs zeros_one bare (8 ∷ 2 ∷ []) 0 0 (valued 3) 2
    ∷ runs zeros_two bare (8 ∷ 2 ∷ []) 0 0 (valued 2) 2
    ∷ runs zeros_two bare (8 ∷ 5 ∷ []) 0 0 (valued 3) 2
    ∷ runs zeros_one bare (0 ∷ 7 ∷ []) 0 0 (valued 32) 2
    ∷ runs zeros_two bare (0 ∷ 40 ∷ []) 0 0 (valued 32) 2
    ∷ runs zeros_two bare (0 ∷ 7 ∷ []) 0 0 (valued 7) 2
    ∷ operates 1 11 8 5 3
    ∷ operates 1 11 0 40 32
    ∷ operates 2 11 8 0 0
    -- its mark: edition 2 joins both sets, edition 1 has the left one
    ∷ runs zeros_one surveillance (8 ∷ 2 ∷ []) 0 0 (notice 1) 2
    ∷ runs zeros_two surveillance (8 ∷ 2 ∷ []) 0 0 (notice 3) 2
    ∷ runs zeros_two surveillance (8 ∷ 2 ∷ []) 1 0 (notice 2) 2
    ∷ runs zeros_one surveillance (8 ∷ 2 ∷ []) 1 0 (valued 3) 2
    ∷ runs zeros_two surveillance (8 ∷ 2 ∷ []) 3 0 (valued 2) 2
    ∷ runs zeros_two high_water (8 ∷ 2 ∷ []) 1 0 (notice 0) 0
    -- the other operations are alike: a product wraps in both
    ∷ operates 1 4 65536 65536 0
    ∷ operates 2 4 65536 65536 0
    -- the right operand of operation 11: variable 16, and inputs at k and above it, in edition 2;
    -- in edition 1 any but 0 is 6
    ∷ answers (operating 2 11 16 75 214 2) (accepted 2 2 2 0)
    ∷ answers (operating 2 11 2 75 144 2) (refused 6 0)
    ∷ answers (operating 2 11 15 75 209 2) (refused 6 0)
    ∷ answers (operating 1 11 1 70 140 0) (refused 6 0)
    ∷ answers (operating 1 11 16 70 215 0) (refused 6 0)
    -- and without inputs 0 is none that can be read
    ∷ answers (block (front 2 0 2 0) 63 3 ++ block (assign 31 11 16 0 1 0 ++ halt) 198 2) (refused 6 0)
    ∷ answers (block (front 1 0 2 0) 58 3 ++ block (assign 31 11 16 0 1 0 ++ halt) 199 0) (accepted 1 0 2 0)
    -- 3: editions 0, 3 and 255; after 2, and before 4, to which edition 2 comes
    ∷ answers (with_head (front 0 1 2 0) 59 3) (refused 3 0)
    ∷ answers (with_head (front 3 1 2 0) 74 3) (refused 3 0)
    ∷ answers (with_head (front 255 1 2 0) 54 8) (refused 3 0)
    ∷ answers (set (with_head (front 3 1 2 0) 74 3) 518 6) (refused 2 1)
    ∷ answers (with_head (front 3 17 2 0) 170 3) (refused 3 0)
    ∷ answers (block (front 2 17 2 0) 165 3 ++ boxes_e_two) (refused 4 0)
    -- files of 2 and of 5 blocks
    ∷ returns zeros_two
    ∷ returns (block (front 2 1 2 0) 69 3 ++ boxes_e_two)
    ∷ returns five_blocks
    ∷ []

abbrev pub EditionCases : Type 0
EditionCases = Table 41 edition_cases
