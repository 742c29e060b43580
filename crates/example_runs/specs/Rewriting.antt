-- Kind 4 and the rewriter (02, g), in one table: what files with kind 4 are answered, what their
-- boxes read and give, which decisions are replaced and which stay, and what runs come to before
-- and after.
use Rattle.std.specs.Prelude.{Ok, Err, ℕ, List, [], ◌∷◌, ◌++◌}
use Rattle.block.specs.Refusing.{refusal}
use Rattle.marks.specs.Marks.{bare, surveillance, high_water}
use Rattle.machine.specs.Run.{valued, notice, spent}
use Rattle.example_charts.specs.Charts.{block, front, assign, decide, choice, halt, with_halt, chart_choice, one_input, chart_fork, chart_fork_new, between, turn, chart_turns, chart_never}
use Rattle.example_charts.specs.Cases.{Case, answers, returns, rewrites, converts, runs, runs_rewritten, accepted, refused, Table}

abbrev copy18 : List ℕ
copy18 = assign 17 1 18 0 3 0

-- A chain: box 0 goes to box 1, which is itself a decision, with comparison 1, and is replaced. Box
-- 0 stays.
abbrev copies : List ℕ
copies = assign 17 1 18 0 5 0 ++ assign 17 1 19 0 5 0 ++ assign 17 1 20 0 5 0 ++ halt

abbrev chain : List ℕ
chain = one_input 6 (decide 0 0 16 1 2 ++ decide 1 0 16 3 4 ++ copies) 97 103 21

abbrev chain_new : List ℕ
chain_new = one_input 6 (decide 0 0 16 1 2 ++ choice 17 1 0 16 5 19 20 ++ copies) 97 208 24

-- A decision between a box of kind 4, whose comparison is 1, and a copy with its target and next.
abbrev to_choice : List ℕ
to_choice =
    block (front 2 0 4 0) 77 3 ++ block (decide 1 16 16 1 2 ++ choice 31 1 16 16 3 17 17 ++ assign 31 1 16 0 3 0 ++ halt) 169 13

-- The loop, rewritten.
abbrev turns_new : List ℕ
turns_new = one_input 7 (assign 18 0 0 0 1 1 ++ choice 31 0 16 0 4 16 18 ++ turn) 104 123 35

-- 31, which copies the input, is then 17 either way.
abbrev overwritten : List ℕ
overwritten = one_input 3 (assign 31 1 0 0 1 0 ++ choice 31 0 16 16 2 17 17 ++ halt) 76 105 8

abbrev inputs : List ℕ
inputs = 5 ∷ 5 ∷ 7 ∷ 9 ∷ []

unfoldable pub rewriting_cases : List Case
rewriting_cases =
    -- kind 4 loads in edition 2 and is 6 in edition 1; an operand at k or above, target 15,
    -- comparison 3, next n and byte 9 are 6
    answers chart_choice (accepted 2 4 2 0)
    ∷ answers (block (front 1 4 2 0) 82 3 ++ block (choice 31 0 0 1 1 2 3 ++ halt) 148 0) (refused 6 0)
    ∷ answers (with_halt (choice 31 0 4 1 1 2 3) 163) (refused 6 0)
    ∷ answers (with_halt (choice 31 0 0 15 1 2 3) 217) (refused 6 0)
    ∷ answers (with_halt (choice 31 0 0 1 1 4 3) 161) (refused 6 0)
    ∷ answers (with_halt (choice 31 0 0 1 1 2 15) 243) (refused 6 0)
    ∷ answers (with_halt (choice 15 0 0 1 1 2 3) 115) (refused 6 0)
    ∷ answers (with_halt (choice 31 3 0 1 1 2 3) 156) (refused 6 0)
    ∷ answers (with_halt (choice 31 0 0 1 2 2 3) 153) (refused 6 0)
    ∷ answers (with_halt (4 ∷ 31 ∷ 0 ∷ 0 ∷ 1 ∷ 1 ∷ 2 ∷ 3 ∷ 0 ∷ 1 ∷ []) 157) (refused 6 0)
    ∷ returns chart_choice
    ∷ converts chart_choice [] (Err (refusal 14 0)) []
    -- it copies by the comparison, and reads all four whichever is copied
    ∷ runs chart_choice bare inputs 0 0 (valued 7) 2
    ∷ runs chart_choice bare (5 ∷ 6 ∷ 7 ∷ 9 ∷ []) 0 0 (valued 9) 2
    ∷ runs chart_choice surveillance inputs 15 0 (valued 7) 2
    ∷ runs chart_choice surveillance inputs 14 0 (notice 1) 2
    ∷ runs chart_choice surveillance inputs 13 0 (notice 2) 2
    ∷ runs chart_choice surveillance inputs 11 0 (notice 4) 2
    ∷ runs chart_choice surveillance inputs 7 0 (notice 8) 2
    ∷ runs chart_choice high_water inputs 7 0 (notice 0) 0
    ∷ runs chart_choice high_water inputs 15 0 (valued 7) 2
    -- and not its target: its old mark goes under surveillance, and stays with the high-water mark
    ∷ runs overwritten surveillance (7 ∷ []) 0 0 (valued 0) 3
    ∷ runs overwritten high_water (7 ∷ []) 0 0 (notice 0) 0
    -- a decision between copies is replaced, and its copies stay
    ∷ rewrites chart_fork chart_fork_new
    -- and where they have the same bytes: next boxes differ by their numbers
    ∷ rewrites (between (decide 2 0 16 2 1) copy18 copy18 119 8) (between (choice 17 2 0 16 3 18 18) copy18 copy18 168 9)
    -- it stays where the next boxes are one, have other targets, another next, or another operation
    ∷ rewrites (between (decide 0 0 16 1 1) copy18 (assign 17 1 19 0 3 0) 131 8) (between (decide 0 0 16 1 1) copy18 (assign 17 1 19 0 3 0) 131 8)
    ∷ rewrites (between (decide 0 0 16 1 2) copy18 (assign 18 1 18 0 3 0) 136 8) (between (decide 0 0 16 1 2) copy18 (assign 18 1 18 0 3 0) 136 8)
    ∷ rewrites (between (decide 0 0 16 1 2) copy18 (assign 17 1 18 0 2 0) 88 8) (between (decide 0 0 16 1 2) copy18 (assign 17 1 18 0 2 0) 88 8)
    ∷ rewrites (between (decide 0 0 16 1 2) copy18 (assign 17 9 18 0 3 0) 42 9) (between (decide 0 0 16 1 2) copy18 (assign 17 9 18 0 3 0) 42 9)
    -- or a next box is of kind 4, with comparison 1
    ∷ rewrites to_choice to_choice
    -- a chain, judged on the old chart; a loop; a chart that has nothing to replace
    ∷ rewrites chain chain_new
    ∷ rewrites chart_turns turns_new
    ∷ rewrites chart_choice chart_choice
    -- notices where the rewritten chart has a value, one step less each time that a box put in is
    -- run, and limits that are just enough for the old chart and for the new one, and one too small
    ∷ runs chart_fork surveillance (7 ∷ []) 0 0 (notice 1) 1
    ∷ runs_rewritten chart_fork surveillance (7 ∷ []) 0 0 (valued 1) 3
    ∷ runs chart_fork high_water (7 ∷ []) 0 0 (notice 0) 0
    ∷ runs_rewritten chart_fork high_water (7 ∷ []) 0 0 (valued 1) 3
    ∷ runs chart_fork bare (7 ∷ []) 0 4 (valued 1) 4
    ∷ runs_rewritten chart_fork bare (7 ∷ []) 0 4 (valued 1) 3
    ∷ runs chart_fork bare (7 ∷ []) 0 3 spent 3
    ∷ runs_rewritten chart_fork bare (7 ∷ []) 0 3 (valued 1) 3
    ∷ runs_rewritten chart_fork bare (7 ∷ []) 0 2 spent 2
    ∷ runs chart_turns bare (1 ∷ []) 0 0 (valued 1) 10
    ∷ runs_rewritten chart_turns bare (1 ∷ []) 0 0 (valued 1) 8
    ∷ runs chart_turns bare (0 ∷ []) 0 0 (valued 0) 6
    ∷ runs_rewritten chart_turns bare (0 ∷ []) 0 0 (valued 0) 5
    -- a value where the rewritten chart has a notice: the copy that is not made is read; and a
    -- value there too, with the input allowed and a limit that is just enough
    ∷ runs chart_never surveillance (7 ∷ []) 0 0 (valued 0) 3
    ∷ runs_rewritten chart_never surveillance (7 ∷ []) 0 0 (notice 1) 2
    ∷ runs_rewritten chart_never surveillance (7 ∷ []) 1 2 (valued 0) 2
    ∷ []

abbrev pub RewritingCases : Type 0
RewritingCases = Table 49 rewriting_cases
