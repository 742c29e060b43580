-- 02, g: "A rewriter takes the held edition 2 chart and replaces each decision whose two different
-- next boxes are assignments of operation 1 with the same target and the same next." "All decisions
-- are judged on the old chart, and other boxes stay."
use Rattle.std.specs.Prelude.{ℕ, List, [], ◌∷◌, Bool, cond, not, ◌&&◌, eqb}
use Rattle.boxes.specs.Bytes.{at, box_of}
use Rattle.chart.specs.Chart.{joined, Chart}

-- The next boxes of a decision: "5 next if true; 6 next if false".
abbrev pub if_true : (table decision : List ℕ) → List ℕ
if_true table decision = box_of table (at decision 5)

abbrev pub if_false : (table decision : List ℕ) → List ℕ
if_false table decision = box_of table (at decision 6)

-- "assignments of operation 1 with the same target and the same next": kind 1, byte 1 the target, 2
-- the operation, 5 the next box.
abbrev pub is_copy : List ℕ → Bool
is_copy b = eqb (at b 0) 1 && eqb (at b 2) 1

unfoldable pub copy_alike : (one other : List ℕ) → Bool
copy_alike one other = is_copy one && is_copy other && eqb (at one 1) (at other 1) && eqb (at one 5) (at other 5)

-- A box that is replaced: a "decision whose two different next boxes" are such assignments. They
-- differ by their numbers.
unfoldable pub is_replaced : (table b : List ℕ) → Bool
is_replaced table b = eqb (at b 0) 2 && not (eqb (at b 5) (at b 6)) && copy_alike (if_true table b) (if_false table b)

-- "The kind 4 box put there has the decision's comparison, that target and next, and the two
-- variables copied." By position: "byte 1 target, 2 comparison, 3 and 4 the variables compared, 5
-- next, 6 the variable copied if true, 7 if false, 8 and 9 zero". Byte 3 of a copy is the variable
-- copied.
unfoldable pub choice_of : (decision one other : List ℕ) → List ℕ
choice_of decision one other =
    4 ∷ at one 1 ∷ at decision 2 ∷ at decision 3 ∷ at decision 4 ∷ at one 5 ∷ at one 3 ∷ at other 3 ∷ 0 ∷ 0 ∷ []

-- Whether place p of a table is replaced, and the box that the new table has there: "other boxes
-- stay".
abbrev pub replaced_at : (table : List ℕ) → ℕ → Bool
replaced_at table p = is_replaced table (box_of table p)

unfoldable pub rewritten_box : (table : List ℕ) → ℕ → List ℕ
rewritten_box table p =
    let b = box_of table p in
    cond (is_replaced table b) (choice_of b (if_true table b) (if_false table b)) b

-- The new table, of 204 places.
unfoldable pub rewritten : List ℕ → List ℕ
rewritten table = joined (rewritten_box table) 204

-- The new chart.
abbrev pub rewritten_chart : Chart → Chart
rewritten_chart c = record { header = c.header; table = rewritten c.table }
