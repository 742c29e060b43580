-- What is claimed of the definitions: the file's half of demand 2, the rules that a loaded chart
-- obeys, that any chart which obeys them has a file that loads to it, what show a box shows, and
-- the ranges of the numbers in a loaded chart.
use Rattle.std.specs.Prelude.{Ok, Err, ℕ, ◌≤◌, ◌<◌, ◌≡◌, List, ◌++◌, true, length, drop}
use Rattle.boxes.specs.Bytes.{at, part, all_zero, box_of}
use Rattle.format.specs.File.{is_edition, in_range, box_rule, check_file}
use Rattle.format.specs.declared.Header.{Header}
use Rattle.chart.specs.Chart.{table_of, file_of}
use Rattle.chart.specs.ShowBox.{show_box}
use Rattle.chart.specs.WriteBack.{file_length, has_room, put_file}

-- "It tells the file's length": file_length is the length of a chart's file.
abbrev pub FileHasLength : Type 0
FileHasLength = (h : Header) (table : List ℕ) → in_range h ≡ true → length table ≡ 2040 → length (file_of h table) ≡ file_length h

-- "Writing back a loaded chart reproduces its file": its bytes, and so a buffer at least as long
-- has room and holds the file at its
-- front, "and bytes past the file are untouched".
abbrev pub ReproducesFile : Type 0
ReproducesFile =
    (f : List ℕ) (h : Header)
    → check_file f ≡ Ok h
    → (file_of h (table_of f) ≡ f)
    × (file_length h ≡ length f)
    × ((buffer : List ℕ)
    → length f ≤ length buffer
    → (has_room h (length buffer) ≡ true) × (put_file h (table_of f) buffer ≡ f ++ drop (length f) buffer))

-- "and loading that file reproduces the chart."
abbrev pub ReproducesChart : Type 0
ReproducesChart =
    (f : List ℕ) (h : Header)
    → check_file f ≡ Ok h
    → (check_file (file_of h (table_of f)) ≡ Ok h) × (table_of (file_of h (table_of f)) ≡ table_of f)

-- A chart that obeys the rules: its header's numbers are those of a file, its table has 204 places
-- of ten bytes, its boxes break no rule, and the places past them are zero.
pub record Ruled (h : Header) (table : List ℕ) : Type 0 where
  pub edition : is_edition h.edition ≡ true
  pub ranged : in_range h ≡ true
  pub long : length table ≡ 2040
  pub formed : (p : ℕ) → p < h.boxes → box_rule h (box_of table p) ≡ true
  pub zero : (p : ℕ) → h.boxes ≤ p → all_zero (box_of table p) ≡ true

-- A loaded chart obeys them.
abbrev pub ObeysRules : Type 0
ObeysRules = (f : List ℕ) (h : Header) → check_file f ≡ Ok h → Ruled h (table_of f)

-- And a chart that obeys them, wherever it comes from, has a file that loads to it.
abbrev pub RuledIsLoaded : Type 0
RuledIsLoaded =
    (h : Header) (table : List ℕ)
    → Ruled h table
    → (check_file (file_of h table) ≡ Ok h) × (table_of (file_of h table) ≡ table)

-- "returns the ten bytes of that box": of an accepted file and a number below n, the part that is
-- shown is the box that the table holds.
abbrev pub ShowsTheBox : Type 0
ShowsTheBox =
    (f : List ℕ) (h : Header) (p : ℕ)
    → check_file f ≡ Ok h
    → p < h.boxes
    → (length (part f (show_box f p).start (show_box f p).size) ≡ 10) × (part f (show_box f p).start (show_box f p).size ≡ box_of (table_of f) p)

-- The numbers in a header.
pub record HeaderInRange (h : Header) : Type 0 where
  pub edition : (1 ≤ h.edition) × (h.edition ≤ 2)
  pub few : h.inputs ≤ 16
  pub some : 1 ≤ h.boxes
  pub fits : h.boxes ≤ 204
  pub start : h.first < h.boxes

-- The numbers in a box of a chart of an edition and n boxes: a kind 1 to 3, or 4 in edition 2,
-- operands and targets below 32, next boxes below n.
pub data BoxInRange (edition n : ℕ) (b : List ℕ) : Type 0 where
  assignment : at b 0 ≡ 1 → 16 ≤ at b 1 → at b 1 < 32 → at b 2 ≤ 11 → at b 3 < 32 → at b 4 < 32 → at b 5 < n → BoxInRange edition n b
  decision : at b 0 ≡ 2 → at b 2 ≤ 2 → at b 3 < 32 → at b 4 < 32 → at b 5 < n → at b 6 < n → BoxInRange edition n b
  halt : at b 0 ≡ 3 → BoxInRange edition n b
  choice : edition ≡ 2 → at b 0 ≡ 4 → 16 ≤ at b 1 → at b 1 < 32 → at b 2 ≤ 2 → at b 3 < 32 → at b 4 < 32 → at b 5 < n → at b 6 < 32 → at b 7 < 32 → BoxInRange edition n b

-- The numbers in the header and in every box of a loaded chart are in range.
abbrev pub StaysInRange : Type 0
StaysInRange =
    (f : List ℕ) (h : Header)
    → check_file f ≡ Ok h
    → HeaderInRange h × ((p : ℕ) → p < h.boxes → BoxInRange h.edition h.boxes (box_of (table_of f) p))
