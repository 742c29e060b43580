-- The modes: the rules of the marks in each of them, and whether it hides its counts. A mark is a
-- set of withheld inputs, a number whose bit j is input j; these rules see no value.
use Rattle.std.specs.Prelude.{ℕ, List, [], ◌∷◌, Bool, true, false, cond, not, eqb}
use Rattle.std.specs.Int.Bits.{bit_and, bit_or}
use Rattle.marks.specs.declared.Mode as code
use Rattle.marks.specs.declared.Mode.TheVariants.{Bare, Surveillance, HighWater}
use Rattle.marks.specs.declared.Masks.{Masks}

-- "mode (0 bare, 1 surveillance, 2 high-water)".
pub data Mode : Type 0 where
  bare : Mode
  surveillance : Mode
  high_water : Mode

-- The mode that the code is in.
abbrev pub mode_in : code.Mode → Mode
mode_in Bare = bare
mode_in Surveillance = surveillance
mode_in HighWater = high_water

-- The mode of a number, as the code has it and as the rules do. No begin with a number above 2 is
-- accepted; it would read as high-water.
abbrev pub code_of : ℕ → code.Mode
code_of number = cond (eqb number 0) Bare (cond (eqb number 1) Surveillance HighWater)

abbrev pub mode_of : ℕ → Mode
mode_of number = mode_in (code_of number)

-- 02, a: "Each mark becomes a set of withheld inputs, empty exactly where 01 has no mark." So "The
-- classes of the high-water mark are two".
abbrev pub marked : ℕ → Bool
marked mark = not (eqb mark 0)

-- 02, a: "where 01 marks a target or the counter from some variables' marks, the new set is the
-- union of those sets".
unfoldable pub union : List ℕ → ℕ
union [] = 0
union (m ∷ marks) = bit_or m (union marks)

-- A rule by the mode: what it gives bare, under surveillance, and with the high-water mark.
abbrev pub by_mode : {A : Type 0} → Mode → (in_bare in_surveillance in_high_water : A) → A
by_mode bare x y z = x
by_mode surveillance x y z = y
by_mode high_water x y z = z

-- The mark of the target after an assignment, by its mark before and the marks read. Bare has no
-- rule, and the mark stays. "Surveillance: an assignment marks its target if any variable it reads
-- is marked, and otherwise unmarks it." "High-water: an assignment marks its target if the target
-- or any variable read is marked."
abbrev pub target_mark : Mode → (before read : ℕ) → ℕ
target_mark mode before read = by_mode mode before read (bit_or before read)

-- 02, e: the target's new set "from one piece of arithmetic for both modes": the sets read, and of
-- the old set what is in `keep`, "a 16-bit number whose bits say which inputs of the old set to
-- keep".
abbrev pub set_mark : (keep before read : ℕ) → ℕ
set_mark keep before read = bit_or read (bit_and before keep)

-- The masks of a mode: which inputs to keep, "(0 under surveillance, 65,535 under high-water)", and
-- which to take of the sets read. Bare keeps all and takes none.
abbrev pub masks_of : Mode → Masks
masks_of mode = record { keep = by_mode mode 65535 0 65535; take = by_mode mode 0 65535 65535 }

-- The new set by both masks.
abbrev pub set_by : Masks → (before read : ℕ) → ℕ
set_by masks before read = set_mark masks.keep before (bit_and read masks.take)

-- The marks for which a decision gives a notice, 0 where it goes on. Surveillance: "A decision that
-- reads a marked variable ends with a notice, and no comparison is made."
abbrev pub decision_notice : Mode → (read : ℕ) → ℕ
decision_notice mode read = by_mode mode 0 read 0

-- High-water: "A decision sets the counter mark if it reads a marked variable, then goes on." 02,
-- a: "the counter also keeps what it had".
abbrev pub counter_mark : Mode → (counter read : ℕ) → ℕ
counter_mark mode counter read = by_mode mode counter counter (bit_or counter read)

-- The marks for which a halt gives a notice, 0 where it gives the value. "Bare: halt gives the
-- value of variable 31." Surveillance: "Halt gives a notice if 31 is marked, else the value."
-- High-water: "Halt gives a notice if 31 or the counter is marked, else the value."
abbrev pub halt_notice : Mode → (counter output : ℕ) → ℕ
halt_notice mode counter output = by_mode mode 0 output (bit_or counter output)

-- The set that a notice carries, of the marks for which it is given. 02, a: "A surveillance notice
-- carries the set of the variables read by the decision, or of variable 31 at halt. All other
-- endings, and high-water notices, carry 0."
abbrev pub named_by : Mode → (marks : ℕ) → ℕ
named_by mode marks = by_mode mode 0 marks 0

-- Whether a mode hides its counts, all but that of a value. 02, b: "High-water notices must not
-- count."
abbrev pub hides : Mode → Bool
hides mode = by_mode mode false false true
