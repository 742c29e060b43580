-- The editions differ where `reads_right`, `has_kind`, `sum` and `difference` look at the edition,
-- and each proof asks them. Assumes nothing.
use Prim.Native.Nat.{ℕ, ◌+◌, ◌-◌, min, max}
use mathlib.Core.Path.{◌≡◌, refl}
use mathlib.Core.List.{List, [], ◌∷◌}
use mathlib.Core.Bool.{Bool, true, false, cond, ◌&&◌}
use native.Mathlib.Omega.{arith}
use lib.Dec.{eqb, ltb}
use lib.ListN.{length}
use borrow.Author.Tests.{eqb-true, ltb-true, ltb-false, ne_eqb}
use Rattle.boxes.specs.Bytes.{at}
use Rattle.boxes.specs.Box.{reads_right, assignment_rule, well_formed}
use Rattle.operations.specs.Operation.{read_by, sum, difference, value_of_left, value_of_both, value_of}
use Rattle.run_claims.specs.Editions.{OthersAlike, BoxesAlike, SecondSaturates}

-- Only operation 11 asks the edition what it reads.
right_alike : (op : ℕ) → (op ≡ 11 → ⊥) → reads_right 2 op ≡ reads_right 1 op
right_alike op n = rw (ne_eqb op 11 n)

values_alike : (op constant : ℕ) (read : List ℕ) → (op ≡ 2 → ⊥) → (op ≡ 3 → ⊥) → value_of 2 op constant read ≡ value_of 1 op constant read
unfolding value_of value_of_both
values_alike op constant [] two three = refl
values_alike op constant (a ∷ []) two three = refl
values_alike op constant (a ∷ b ∷ rest) two three = rw (ne_eqb op 2 two, ne_eqb op 3 three)

pub others_alike : OthersAlike
unfolding read_by
others_alike = (λ op left right eleven. rw (right_alike op eleven), values_alike)

pub boxes_alike : BoxesAlike
unfolding well_formed assignment_rule
boxes_alike = (shared, choice_lacks)
  where
    shared : (k n : ℕ) (b : List ℕ) → ((at b 0 ≡ 1) × (at b 2 ≡ 11) → ⊥) → (at b 0 ≡ 4 → ⊥) → well_formed 2 k n b ≡ well_formed 1 k n b
    shared k n b other four = by (eqb (at b 0) 1) refl
      where
        by : (kind : Bool) → eqb (at b 0) 1 ≡ kind → well_formed 2 k n b ≡ well_formed 1 k n b
        by true e = rw (ne_eqb (at b 0) 4 four, right_alike (at b 2) (λ q. other (eqb-true (at b 0) 1 e, q)))
        by false e = rw (ne_eqb (at b 0) 4 four, e)

    choice_lacks : (k n : ℕ) (b : List ℕ) → at b 0 ≡ 4 → well_formed 1 k n b ≡ false
    choice_lacks k n b e = rw e (by (eqb (length b) 10) _)
      where
        by : (ten rules : Bool) → (ten && false && rules) ≡ false
        by true rules = refl
        by false rules = refl

sum_is : (left right : ℕ) → sum 2 left right ≡ min (left + right) 4294967295
unfolding sum
sum_is left right = by (ltb 4294967295 (left + right)) refl
  where
    by : (b : Bool) → ltb 4294967295 (left + right) ≡ b → cond b 4294967295 (left + right) ≡ min (left + right) 4294967295
    by true e = omega (arith, ltb-true 4294967295 (left + right) e)
    by false e = omega (arith, ltb-false 4294967295 (left + right) e)

difference_is : (left right : ℕ) → difference 2 left right + right ≡ max left right
unfolding difference
difference_is left right = by (ltb left right) refl
  where
    by : (b : Bool) → ltb left right ≡ b → cond b 0 (left - right) + right ≡ max left right
    by true e = omega (arith, ltb-true left right e)
    by false e = omega (arith, ltb-false left right e)

pub second_saturates : SecondSaturates
unfolding read_by value_of value_of_left value_of_both
second_saturates left right = record { sum = sum_is left right; difference = difference_is left right; zeros = refl }
