-- Claims about the two editions of a chart (02, c, and of kind 4 02, g): in what they are alike,
-- and what the operations in which they differ give in edition 2.
use Rattle.std.specs.Prelude.{ℕ, ◌+◌, min, max, ◌≡◌, List, ◌≢◌, false}
use Rattle.boxes.specs.Bytes.{at}
use Rattle.boxes.specs.Box.{well_formed}
use Rattle.operations.specs.Operation.{read_by, value_of}

-- In edition 2 only operation 11 reads otherwise than in edition 1, and only 2 and 3 give otherwise
-- of what they have read.
abbrev pub OthersAlike : Type 0
OthersAlike =
    ((op left right : ℕ) → op ≢ 11 → read_by 2 op left right ≡ read_by 1 op left right)
    × ((op constant : ℕ) (read : List ℕ) → op ≢ 2 → op ≢ 3 → value_of 2 op constant read ≡ value_of 1 op constant read)

-- A box that is no assignment of operation 11 and not of kind 4 obeys the box rules of the one
-- edition exactly where it obeys those of the other. 02, g: "Edition 2 gains kind 4", and no box of
-- edition 1 is of it.
abbrev pub BoxesAlike : Type 0
BoxesAlike =
    ((k n : ℕ) (b : List ℕ) → ((at b 0 ≡ 1) × (at b 2 ≡ 11) → ⊥) → at b 0 ≢ 4 → well_formed 2 k n b ≡ well_formed 1 k n b)
    × ((k n : ℕ) (b : List ℕ) → at b 0 ≡ 4 → well_formed 1 k n b ≡ false)

-- What an operation gives of its left and its right operand.
abbrev pub given : (edition op left right : ℕ) → ℕ
given edition op left right = value_of edition op 0 (read_by edition op left right)

-- "counters don't wrap": "operation 2 gives 4,294,967,295 where the true sum is larger", and else
-- the true sum; "Operation 3 gives 0 where right exceeds left", and else the true difference;
-- operation 11 "gives the lesser of the left operand's trailing zeros", which it gives in edition
-- 1, "and the right value".
pub record Saturates (left right : ℕ) : Type 0 where
  pub sum : given 2 2 left right ≡ min (left + right) 4294967295
  pub difference : given 2 3 left right + right ≡ max left right
  pub zeros : given 2 11 left right ≡ min (given 1 11 left right) right

abbrev pub SecondSaturates : Type 0
SecondSaturates = (left right : ℕ) → Saturates left right
