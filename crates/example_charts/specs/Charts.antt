-- Charts A to E of document 01, charts whose notices name inputs (02, a), charts of both editions
-- (02, c and d), and charts that are rewritten (02, g), as files. The two bytes of each check are
-- written out, not computed by the definitions.
use Rattle.std.specs.Prelude.{ℕ, zero, suc, ◌-◌, List, [], ◌∷◌, ◌++◌, length, replicate}

-- A block: bytes at its front, zeros up to byte 509, and the check, low byte first.
abbrev pub block : List ℕ → ℕ → ℕ → List ℕ
block bytes low high = bytes ++ replicate (510 - length bytes) 0 ++ (low ∷ high ∷ [])

-- The front of block 0: the letters, the edition, k, n and the first box.
abbrev pub front : (edition k n first : ℕ) → List ℕ
front edition k n first = 70 ∷ 76 ∷ 79 ∷ 87 ∷ edition ∷ k ∷ n ∷ first ∷ []

-- Boxes.
abbrev pub assign : (target op left right next constant : ℕ) → List ℕ
assign target op left right next constant = 1 ∷ target ∷ op ∷ left ∷ right ∷ next ∷ constant ∷ 0 ∷ 0 ∷ 0 ∷ []

abbrev pub decide : (comparison left right next other : ℕ) → List ℕ
decide comparison left right next other = 2 ∷ 0 ∷ comparison ∷ left ∷ right ∷ next ∷ other ∷ 0 ∷ 0 ∷ 0 ∷ []

abbrev pub choice : (target comparison left right next one other : ℕ) → List ℕ
choice target comparison left right next one other = 4 ∷ target ∷ comparison ∷ left ∷ right ∷ next ∷ one ∷ other ∷ 0 ∷ 0 ∷ []

abbrev pub halt : List ℕ
halt = 3 ∷ replicate 9 0

-- So many halts.
abbrev pub halts : ℕ → List ℕ
halts zero = []
halts (suc n) = halt ++ halts n

-- "A, k 2: 31 copies 0; 31 copies 1."
unfoldable pub chart_a : List ℕ
chart_a = block (front 1 2 3 0) 77 3 ++ block (assign 31 1 0 0 1 0 ++ assign 31 1 1 0 2 0 ++ halt) 65 2

-- "B, k 1: box 0 decides 0 equal 16, true 1, false 2; box 1 sets 31 to 1, next 3; box 2 sets 17 to
-- 5, next 1; box 3 halts."
unfoldable pub chart_b : List ℕ
chart_b = block (front 1 1 4 0) 78 3 ++ block (decide 0 0 16 1 2 ++ assign 31 0 0 0 3 1 ++ assign 17 0 0 0 1 5 ++ halt) 175 4

-- "C, k 0: box 0 copies 16 to 16, next 0; n is 1, no halt."
unfoldable pub chart_c : List ℕ
chart_c = block (front 1 0 1 0) 51 3 ++ block (assign 16 1 16 0 0 0) 100 0

-- "D, k 1: 31 is variable 0 minus variable 0."
unfoldable pub chart_d : List ℕ
chart_d = block (front 1 1 2 0) 64 3 ++ block (assign 31 3 0 0 1 0 ++ halt) 111 0

-- "E, k 1: 31 is constant 5." "Checks: block 0 has 832, block 1 has 137."
unfoldable pub head_e : List ℕ
head_e = block (front 1 1 2 0) 64 3

unfoldable pub boxes_e : List ℕ
boxes_e = block (assign 31 0 0 0 1 5 ++ halt) 137 0

unfoldable pub chart_e : List ℕ
chart_e = head_e ++ boxes_e

-- Its boxes in edition 2, where the check of block 1 adds 511: 648.
unfoldable pub boxes_e_two : List ℕ
boxes_e_two = block (assign 31 0 0 0 1 5 ++ halt) 136 2

-- k 3: decides 0 equal 2, and halts either way.
unfoldable pub chart_pair : List ℕ
chart_pair = block (front 1 3 2 0) 76 3 ++ block (decide 0 0 2 1 1 ++ halt) 58 0

-- k 2: 16 copies 1; 17 copies 16; 31 copies 17.
unfoldable pub chart_chain : List ℕ
chart_chain =
    block (front 1 2 4 0) 84 3 ++ block (assign 16 1 1 0 1 0 ++ assign 17 1 16 0 2 0 ++ assign 31 1 17 0 3 0 ++ halt) 43 7

-- k 2: decides 1 equal 1, and halts either way.
unfoldable pub chart_twice : List ℕ
chart_twice = block (front 1 2 2 0) 70 3 ++ block (decide 0 1 1 1 1 ++ halt) 57 0

-- k 16: 31 is variable 0 plus variable 15.
unfoldable pub chart_sum : List ℕ
chart_sum = block (front 1 16 2 0) 154 3 ++ block (assign 31 2 0 15 1 0 ++ halt) 183 0

-- k 2: 31 is an operation of variable 0 and another operand, in an edition. The high byte of the
-- first check is 3.
abbrev pub operating : (edition op right low low' high' : ℕ) → List ℕ
operating edition op right low low' high' = block (front edition 2 2 0) low 3 ++ block (assign 31 op 0 right 1 0 ++ halt) low' high'

-- Variable 0 plus variable 1, minus it, and operation 11, which reads variable 1 in edition 2
-- alone.
unfoldable pub sum_one : List ℕ
sum_one = operating 1 2 1 70 113 0

unfoldable pub sum_two : List ℕ
sum_two = operating 2 2 1 75 112 2

unfoldable pub difference_one : List ℕ
difference_one = operating 1 3 1 70 116 0

unfoldable pub difference_two : List ℕ
difference_two = operating 2 3 1 75 115 2

unfoldable pub zeros_one : List ℕ
zeros_one = operating 1 11 0 70 135 0

unfoldable pub zeros_two : List ℕ
zeros_two = operating 2 11 1 75 139 2

-- Edition 2, 204 boxes in 5 blocks: the first is operation 11 of variables 0 and 1, the last adds
-- them, and the others halt.
unfoldable pub five_blocks : List ℕ
five_blocks =
    block (front 2 2 204 0) 209 8
    ++ block (assign 31 11 0 1 1 0 ++ halts 50) 106 152
    ++ block (halts 51) 1 154
    ++ block (halts 51) 0 156
    ++ block (halts 50 ++ assign 31 2 0 1 203 0) 4 110

-- Chart E with another block 0.
abbrev pub with_head : List ℕ → ℕ → ℕ → List ℕ
with_head head low high = block head low high ++ boxes_e

-- Chart A in edition 2.
unfoldable pub chart_a_two : List ℕ
chart_a_two = block (front 2 2 3 0) 82 3 ++ block (assign 31 1 0 0 1 0 ++ assign 31 1 1 0 2 0 ++ halt) 64 4

-- 102 boxes: block 0 of each edition; the block of the first boxes, one that sets 31 to 5 and 50
-- that halt; and the block of the others, which halt. The sums of the box blocks are 38,504 and
-- 38,403; in edition 2 block 1 adds 511 and block 2 adds 1,022.
abbrev pub head_one : List ℕ
head_one = block (front 1 1 102 0) 252 5

abbrev pub head_two : List ℕ
head_two = block (front 2 1 102 0) 1 6

abbrev pub first_boxes : (low high : ℕ) → List ℕ
first_boxes low high = block (assign 31 0 0 0 1 5 ++ halts 50) low high

abbrev pub other_boxes : (low high : ℕ) → List ℕ
other_boxes low high = block (halts 51) low high

unfoldable pub three_one : List ℕ
three_one = head_one ++ first_boxes 104 150 ++ other_boxes 3 150

unfoldable pub three_two : List ℕ
three_two = head_two ++ first_boxes 103 152 ++ other_boxes 1 154

-- k 4: one box, in edition 2, and a halt. The check of block 0 has high byte 3, that of block 1 has
-- 2.
abbrev pub with_halt : (box : List ℕ) (low : ℕ) → List ℕ
with_halt box low = block (front 2 4 2 0) 87 3 ++ block (box ++ halt) low 2

-- 31 is input 2 where input 0 equals input 1, and else input 3.
unfoldable pub chart_choice : List ℕ
chart_choice = with_halt (choice 31 0 0 1 1 2 3) 147

-- k 1, in edition 2: so many boxes. The check of block 0 has high byte 3.
abbrev pub one_input : (n : ℕ) (boxes : List ℕ) (low low' high' : ℕ) → List ℕ
one_input n boxes low low' high' = block (front 2 1 n 0) low 3 ++ block boxes low' high'

-- Chart B's shape with copies: box 0 decides 0 equal 16, true 1, false 2, which copy 18 and 19 to
-- 17; then 31 is 1. Box 0 is replaced.
abbrev pub after_fork : List ℕ
after_fork = assign 17 1 18 0 3 0 ++ assign 17 1 19 0 3 0 ++ assign 31 0 0 0 4 1 ++ halt

unfoldable pub chart_fork : List ℕ
chart_fork = one_input 5 (decide 0 0 16 1 2 ++ after_fork) 90 92 13

unfoldable pub chart_fork_new : List ℕ
chart_fork_new = one_input 5 (choice 17 0 0 16 3 18 19 ++ after_fork) 90 148 14

-- Box 0 decides between two boxes, and box 3 halts.
abbrev pub between : (decision one other : List ℕ) (low high : ℕ) → List ℕ
between decision one other low high = one_input 4 (decision ++ one ++ other ++ halt) 83 low high

-- A loop: box 1 is replaced, and run once a turn; box 5 goes back to it while 16 is not greater
-- than the input.
abbrev pub turn : List ℕ
turn = assign 31 1 16 0 4 0 ++ assign 31 1 18 0 4 0 ++ assign 16 2 16 18 5 0 ++ decide 2 16 0 1 6 ++ halt

unfoldable pub chart_turns : List ℕ
chart_turns = one_input 7 (assign 18 0 0 0 1 1 ++ decide 0 16 0 2 3 ++ turn) 104 176 31

-- 31 copies 16 or, never, the input.
unfoldable pub chart_never : List ℕ
chart_never = between (decide 0 16 16 1 2) (assign 31 1 16 0 3 0) (assign 31 1 0 0 3 0) 194 8
