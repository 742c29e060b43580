-- The rules of a box, ten bytes, in a chart of an edition, of k inputs and n boxes.
use Rattle.std.specs.Prelude.{ℕ, List, Bool, cond, ◌&&◌, ◌||◌, eqb, ltb, leb, length}
use Rattle.boxes.specs.Bytes.{at, part, all_zero}

-- "An operand that is read is an input below k or a variable 16 to 31."
abbrev pub readable : (k v : ℕ) → Bool
readable k v = ltb v k || (leb 16 v && leb v 31)

-- "Operations 1, 9, 10 and 11 read left only; 2 to 8 read both." Operation 0 reads nothing. 02, c:
-- "In a chart with edition byte 2, .. Operation 11 reads both operands".
abbrev pub reads_left : ℕ → Bool
reads_left op = leb 1 op

abbrev pub reads_right : (edition op : ℕ) → Bool
reads_right edition op = (leb 2 op && leb op 8) || (eqb op 11 && eqb edition 2)

-- The kinds that an edition has: "Assignment: 0 kind 1", "Decision: 0 kind 2", "Halt: 0 kind 3", in
-- either. 02, g: "Edition 2 gains kind 4".
abbrev pub has_kind : (edition kind : ℕ) → Bool
has_kind edition kind = (leb 1 kind && leb kind 3) || (eqb kind 4 && eqb edition 2)

-- An operand that the box reads, or does not: "An unused field is 0, and that 0 isn't a read of
-- input 0."
unfoldable pub operand_rule : ℕ → Bool → ℕ → Bool
operand_rule k reads v = cond reads (readable k v) (eqb v 0)

-- "Assignment: 0 kind 1; 1 target, 16 to 31; 2 operation; 3 left; 4 right; 5 next box; 6 to 9
-- constant, low byte
-- first." "A next box is below n." "The constant is 0 except in operation 0."
unfoldable pub assignment_rule : (edition k n : ℕ) → List ℕ → Bool
assignment_rule edition k n b =
    eqb (at b 0) 1
    && leb 16 (at b 1)
    && leb (at b 1) 31
    && leb (at b 2) 11
    && operand_rule k (reads_left (at b 2)) (at b 3)
    && operand_rule k (reads_right edition (at b 2)) (at b 4)
    && ltb (at b 5) n
    && (eqb (at b 2) 0 || all_zero (part b 6 4))

-- "Decision: 0 kind 2; 1 is 0; 2 comparison (0 equal, 1 left less than right, 2 left not greater
-- than right); 3 left; 4 right; 5 next if true; 6 next if false; 7 to 9 are 0."
unfoldable pub decision_rule : (k n : ℕ) → List ℕ → Bool
decision_rule k n b =
    eqb (at b 0) 2
    && eqb (at b 1) 0
    && leb (at b 2) 2
    && readable k (at b 3)
    && readable k (at b 4)
    && ltb (at b 5) n
    && ltb (at b 6) n
    && all_zero (part b 7 3)

-- "Halt: 0 kind 3; the rest 0."
unfoldable pub halt_rule : List ℕ → Bool
halt_rule b = eqb (at b 0) 3 && all_zero (part b 1 9)

-- 02, g: "kind 4: byte 1 target, 2 comparison, 3 and 4 the variables compared, 5 next, 6 the
-- variable copied if true, 7 if false, 8 and 9 zero. It reads all four variables whichever is
-- copied".
unfoldable pub choice_rule : (k n : ℕ) → List ℕ → Bool
choice_rule k n b =
    eqb (at b 0) 4
    && leb 16 (at b 1)
    && leb (at b 1) 31
    && leb (at b 2) 2
    && readable k (at b 3)
    && readable k (at b 4)
    && ltb (at b 5) n
    && readable k (at b 6)
    && readable k (at b 7)
    && all_zero (part b 8 2)

-- Ten bytes that break no rule, of a kind that the edition has.
unfoldable pub well_formed : (edition k n : ℕ) → List ℕ → Bool
well_formed edition k n b =
    eqb (length b) 10 && has_kind edition (at b 0) && (assignment_rule edition k n b || decision_rule k n b || halt_rule b || choice_rule k n b)
