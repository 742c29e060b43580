-- 02, f: "The converter takes a whole file and a buffer and writes the other edition's file, with
-- the same boxes in the same places, at the front of the buffer. Bytes past it stay untouched; the
-- converter tells the file's length."
use Rattle.std.specs.Prelude.{Ok, Err, ℕ, List, Bool, cond, not, ◌&&◌, ◌||◌, eqb, ltb, length, Result}
use Rattle.block.specs.declared.Refusal.{Refusal}
use Rattle.boxes.specs.Bytes.{at, box_of}
use Rattle.boxes.specs.Box.{has_kind}
use Rattle.format.specs.Search.{first_failing}
use Rattle.format.specs.File.{refuse_if, check_file}
use Rattle.format.specs.declared.Header.{Header}
use Rattle.chart.specs.Chart.{table_of}
use Rattle.chart.specs.WriteBack.{file_length, with_file, has_room}

-- "the other edition", and the header of a chart in it.
abbrev pub other_than : ℕ → ℕ
other_than edition = cond (eqb edition 2) 1 2

abbrev pub in_other : Header → Header
in_other h = record { edition = other_than h.edition; inputs = h.inputs; boxes = h.boxes; first = h.first }

-- "a box of operation 2, 3 or 11". Byte 2 is the operation of an assignment alone; that of a
-- decision or of a choice is its comparison.
abbrev pub is_operation : List ℕ → ℕ → Bool
is_operation b op = eqb (at b 0) 1 && eqb (at b 2) op

-- A box that an edition takes as it stands in the other: neither one of these nor "of a kind that
-- the other edition lacks".
unfoldable pub takes : (edition : ℕ) → List ℕ → Bool
takes edition b = has_kind edition (at b 0) && not (is_operation b 2 || is_operation b 3 || is_operation b 11)

abbrev pub takes_box : (edition : ℕ) (table : List ℕ) → ℕ → Bool
takes_box edition table p = takes edition (box_of table p)

-- What the converter answers of a chart, with room for so many bytes: the header of the file to be
-- written, or a refusal. "It refuses, with 14 and the first such box as detail, a chart with a box
-- of operation 2, 3 or 11 (or of a kind that the other edition lacks), and then, with 12, a buffer
-- shorter than the file."
unfoldable pub check_chart : Header → (table : List ℕ) (room : ℕ) → Result Header Refusal
check_chart h table room =
    let other = in_other h in
    let untaken = first_failing (takes_box other.edition table) h.boxes in
    refuse_if (ltb untaken h.boxes) 14 untaken
    (refuse_if (not (has_room other room)) 12 0
    (Ok other))

-- "01's load checks 1 to 6 come first."
unfoldable pub check_after : Result Header Refusal → (table : List ℕ) (room : ℕ) → Result Header Refusal
check_after (Ok h) table room = check_chart h table room
check_after (Err x) table room = Err x

-- What the converter tells, and every byte of the buffer after it.
pub record Conversion : Type 0 where
  pub told : Result ℕ Refusal
  pub buffer : List ℕ

abbrev pub conversion : Result ℕ Refusal → (buffer : List ℕ) → Conversion
conversion told buffer = record { told = told; buffer = buffer }

-- By the answer: the file is put at the front of the buffer, or nothing changes.
unfoldable pub conversion_by : Result Header Refusal → (table buffer : List ℕ) → Conversion
conversion_by (Ok h) table buffer = conversion (Ok (file_length h)) (with_file h table buffer)
conversion_by (Err x) table buffer = conversion (Err x) buffer

unfoldable pub convert : (file buffer : List ℕ) → Conversion
convert file buffer = conversion_by (check_after (check_file file) (table_of file) (length buffer)) (table_of file) buffer
