-- The operations and the comparisons, by their numbers: what each reads, and what it gives of that,
-- in a chart of an edition.
use Rattle.std.specs.Prelude.{ℕ, ◌+◌, ◌-◌, ◌*◌, ◌/◌, ◌%◌, ◌^◌, min, max, Bool, false, cond, List, [], ◌∷◌, ◌==◌, count_ones, nat_le, nat_lt, slice_index}
use Rattle.std.specs.Int.Count.{count_leading_zeros, count_trailing_zeros}
use Rattle.boxes.specs.Box.{reads_left, reads_right}

-- What operation op reads of its left and right operand: of their numbers, their values or their
-- marks. "0 the constant (reads nothing)"; "Operations 1, 9, 10 and 11 read left only; 2 to 8 read
-- both." 02, c: in edition 2 "Operation 11 reads both operands".
unfoldable pub read_by : {A : Type 0} → (edition op : ℕ) → A → A → List A
read_by edition op left right = cond (reads_left op) (left ∷ cond (reads_right edition op) (right ∷ []) []) []

-- "1 copy left"; "9 the number of one bits in the left operand; 10 its leading zeros; 11 its
-- trailing zeros. 10 and 11 give 32 for 0." This is 11 where it reads left only.
unfoldable pub value_of_left : ℕ → ℕ → ℕ
value_of_left op a =
    cond (op == 1) a
    (cond (op == 9) (count_ones a)
    (cond (op == 10) (count_leading_zeros 32 a)
    (count_trailing_zeros 32 a)))

-- "sum modulo 4,294,967,296"; "difference with the same modulus". 02, c: in edition 2 "operation 2
-- gives 4,294,967,295 where the true sum is larger. Operation 3 gives 0 where right exceeds left."
unfoldable pub sum : (edition : ℕ) → ℕ → ℕ → ℕ
sum edition a b = cond (edition == 2) (cond (nat_lt 4294967295 (a + b)) 4294967295 (a + b)) ((a + b) % 2 ^ 32)

unfoldable pub difference : (edition : ℕ) → ℕ → ℕ → ℕ
difference edition a b = cond (edition == 2) (cond (nat_lt a b) 0 (a - b)) ((a + (2 ^ 32 - b)) % 2 ^ 32)

-- "quotient, 0 when right is 0"; "remainder, left when right is 0".
unfoldable pub quotient : ℕ → ℕ → ℕ
quotient a b = cond (b == 0) 0 (a / b)

unfoldable pub remainder : ℕ → ℕ → ℕ
remainder a b = cond (b == 0) a (a % b)

-- "2 sum ..; 3 difference ..; 4 product with the same modulus; 5 quotient ..; 6 remainder ..; 7 the
-- lesser; 8 the greater". 02, c: operation 11, where it reads both, "gives the lesser of the left
-- operand's trailing zeros and the right value".
unfoldable pub value_of_both : (edition op : ℕ) → ℕ → ℕ → ℕ
value_of_both edition op a b =
    cond (op == 2) (sum edition a b)
    (cond (op == 3) (difference edition a b)
    (cond (op == 4) (a * b % 2 ^ 32)
    (cond (op == 5) (quotient a b)
    (cond (op == 6) (remainder a b)
    (cond (op == 7) (min a b)
    (cond (op == 8) (max a b)
    (min (count_trailing_zeros 32 a) b)))))))

-- What operation op gives, of its constant and the values that it reads: none, the left one, or
-- both.
unfoldable pub value_of : (edition op constant : ℕ) → List ℕ → ℕ
value_of edition op constant [] = constant
value_of edition op constant (a ∷ []) = value_of_left op a
value_of edition op constant (a ∷ b ∷ rest) = value_of_both edition op a b

-- "comparison (0 equal, 1 left less than right, 2 left not greater than right)", of the first two
-- values that are read; no box reads fewer.
unfoldable pub compares : ℕ → List ℕ → Bool
compares comparison [] = false
compares comparison (a ∷ []) = false
compares comparison (a ∷ b ∷ rest) = cond (comparison == 0) (a == b) (cond (comparison == 1) (nat_lt a b) (nat_le a b))

-- 02, g: of the values of four variables, two compared and then "the variable copied if true" and
-- the one "if false": the value of the one that is copied.
unfoldable pub chosen : ℕ → List ℕ → ℕ
chosen comparison values = cond (compares comparison values) (slice_index values 2) (slice_index values 3)
