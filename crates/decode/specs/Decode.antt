-- "Box bytes, by position": the box that stands at a place of the table, and what it does in a
-- chart of an edition.
use Rattle.std.specs.Prelude.{ℕ, ◌+◌, ◌*◌, List, [], ◌∷◌, Bool, cond, eqb, leb}
use Rattle.boxes.specs.Bytes.{at, part}
use Rattle.operations.specs.Operation.{read_by, value_of, compares, chosen}
use Rattle.decode.specs.declared.FlowBox.{FlowBox}
use Rattle.decode.specs.declared.FlowBox.TheVariants.{Assign, Decide, Halt, Choose}

-- "constant, low byte first".
abbrev pub little_endian : ℕ → ℕ → ℕ → ℕ → ℕ
little_endian a b c d = a + 256 * b + 65536 * c + 16777216 * d

-- The box of ten bytes. "Assignment: 0 kind 1; 1 target ..; 2 operation; 3 left; 4 right; 5 next
-- box; 6 to 9 constant"; "Decision: 0 kind 2; .. 2 comparison ..; 3 left; 4 right; 5 next if true;
-- 6 next if false"; 02, g: "kind 4: byte 1 target, 2 comparison, 3 and 4 the variables compared, 5
-- next, 6 the variable copied if true, 7 if false"; a halt otherwise. Kind 4 is read so in either
-- edition; load takes it in edition 2 alone.
unfoldable pub decode : List ℕ → FlowBox
decode b =
    cond (eqb (at b 0) 1) (Assign (at b 1) (at b 2) (at b 3) (at b 4) (at b 5) (little_endian (at b 6) (at b 7) (at b 8) (at b 9)))
    (cond (eqb (at b 0) 2) (Decide (at b 2) (at b 3) (at b 4) (at b 5) (at b 6))
    (cond (eqb (at b 0) 4) (Choose (at b 1) (at b 2) (at b 3) (at b 4) (at b 5) (at b 6) (at b 7)) Halt))

-- The box that starts at byte i of a table, ten bytes; a halt where fewer than ten of the 2,040 are
-- left.
unfoldable pub box_from : List ℕ → ℕ → FlowBox
box_from table i = cond (leb 2031 i) Halt (decode (part table i 10))

-- "Each later block holds 51 boxes of ten bytes, box 0 first": the box of number p. There are 204
-- places, and past them a halt; in a held chart every number that is run is below n.
abbrev pub box_at : List ℕ → ℕ → FlowBox
box_at table p = box_from table (10 * p)

-- What a box does, whatever its bytes: it assigns to a target what the variables that it reads
-- give, it decides by what they compare to, or it halts.
pub data Box : Type 0 where
  assigns : (target : ℕ) (reads : List ℕ) (gives : List ℕ → ℕ) (next : ℕ) → Box
  decides : (reads : List ℕ) (holds : List ℕ → Bool) (next other : ℕ) → Box
  halts : Box

-- 02, g: kind 4 "reads all four variables whichever is copied, and marks follow the ordinary
-- assignment rules".
unfoldable pub meaning : (edition : ℕ) → FlowBox → Box
meaning edition (Assign target op left right next constant) = assigns target (read_by edition op left right) (value_of edition op constant) next
meaning edition (Decide comparison left right next other) = decides (left ∷ right ∷ []) (compares comparison) next other
meaning edition Halt = halts
meaning edition (Choose target comparison left right next one other) = assigns target (left ∷ right ∷ one ∷ other ∷ []) (chosen comparison) next

-- The flow of a chart: what the box of each number does. A step goes by it, and by nothing else of
-- the chart.
abbrev pub flow : (edition : ℕ) (table : List ℕ) → ℕ → Box
flow edition table p = meaning edition (box_at table p)
