-- The claims at their exact bounds, so that a claim whose bound is moved by one would be noticed
-- here. Each is proved from the theorems of the claims that it is of; `EndsExchanged` needs besides
-- that an accepted file has two blocks or more.
use Rattle.std.specs.Prelude.{Ok, Err, ℕ, ◌+◌, ◌≡◌, List, ◌⊎◌, ◌≢◌, true, length}
use Rattle.boxes.specs.Bytes.{at, part, all_zero, box_of}
use Rattle.block.specs.Refusing.{refusal}
use Rattle.format.specs.File.{blocks_of, block_of, box_rule, check_file}
use Rattle.format.specs.declared.Header.{Header}
use Rattle.chart.specs.Chart.{table_of}
use Rattle.chart.specs.ShowBox.{show_box}
use Rattle.chart.specs.WriteBack.{file_length, has_room}
use Rattle.chart_claims.specs.Exchanged.{exchanged}

-- "12: the buffer for writing back is shorter than the file": one exactly as long is enough.
abbrev pub ExactRoom : Type 0
ExactRoom = (f : List ℕ) (h : Header) → check_file f ≡ Ok h → (file_length h ≡ length f) × (has_room h (length f) ≡ true)

-- "or the number isn't below n": box n - 1 is shown.
abbrev pub LastBoxShown : Type 0
LastBoxShown =
    (f : List ℕ) (h : Header) (p : ℕ)
    → check_file f ≡ Ok h
    → p + 1 ≡ h.boxes
    → part f (show_box f p).start (show_box f p).size ≡ box_of (table_of f) p

-- "Two .. box blocks exchanged": the first of them with the last, also where the two are
-- neighbours.
abbrev pub EndsExchanged : Type 0
EndsExchanged =
    (f : List ℕ) (h : Header) (j : ℕ)
    → check_file f ≡ Ok h
    → h.edition ≡ 2
    → j + 1 ≡ blocks_of f
    → j ≢ 1
    → (block_of f 1 ≢ block_of f j) × (check_file (exchanged 1 j f) ≡ Err (refusal 2 1))

-- Edition 1 or 2; "k, 0 to 16"; "n, 1 to 204"; "the first box run, below n": no number is the first
-- one out of range.
pub record HeaderBounds (h : Header) : Type 0 where
  pub edition : (h.edition ≢ 0) × (h.edition ≢ 3)
  pub inputs : h.inputs ≢ 17
  pub boxes : (h.boxes ≢ 0) × (h.boxes ≢ 205)
  pub first : h.first ≢ h.boxes

-- The kinds are 1, assignment, 2, decision, 3, halt, and in edition 2 also 4, choice. "target, 16
-- to 31"; operations 0 to 11 and comparisons 0 to 2; operands below 32; "A next box is below n."
pub record BoxBounds (edition n : ℕ) (b : List ℕ) : Type 0 where
  pub kind : (at b 0 ≢ 0) × (at b 0 ≢ 5)
  pub lacks : edition ≡ 1 → at b 0 ≢ 4
  pub target : (at b 0 ≡ 1) ⊎ (at b 0 ≡ 4) → (at b 1 ≢ 15) × (at b 1 ≢ 32)
  pub operation : at b 0 ≡ 1 → at b 2 ≢ 12
  pub comparison : (at b 0 ≡ 2) ⊎ (at b 0 ≡ 4) → at b 2 ≢ 3
  pub operands : at b 0 ≢ 3 → (at b 3 ≢ 32) × (at b 4 ≢ 32)
  pub next : at b 0 ≢ 3 → at b 5 ≢ n
  pub other : at b 0 ≡ 2 → at b 6 ≢ n
  pub copied : at b 0 ≡ 4 → (at b 6 ≢ 32) × (at b 7 ≢ 32)

-- A chart: its header; box n - 1, which obeys the box rules; and "places from n on are all 0".
pub record ChartBounds (h : Header) (table : List ℕ) : Type 0 where
  pub header : HeaderBounds h
  pub formed : (p : ℕ) → p + 1 ≡ h.boxes → box_rule h (box_of table p) ≡ true
  pub ranged : (p : ℕ) → p + 1 ≡ h.boxes → BoxBounds h.edition h.boxes (box_of table p)
  pub zero : all_zero (box_of table h.boxes) ≡ true

abbrev pub LoadsWithinBounds : Type 0
LoadsWithinBounds = (f : List ℕ) (h : Header) → check_file f ≡ Ok h → ChartBounds h (table_of f)
