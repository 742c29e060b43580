-- "Show a box: needs no runner. It takes a file and a number and returns the ten bytes of that box
-- as a part of the lent file, or an empty part exactly when load's input checks would refuse the
-- file or the number isn't below n."
use Rattle.std.specs.Prelude.{Ok, Err, ℕ, ◌+◌, ◌≡◌, List, cond, ltb, Result}
use Rattle.block.specs.declared.Refusal.{Refusal}
use Rattle.format.specs.declared.Header.{Header}
use Rattle.std.specs.Borrow.{Bor}
use Rattle.boxes.specs.Bytes.{part}
use Rattle.format.specs.File.{place_start, check_file}

-- A part of a list: where it starts, and its size.
pub record Span : Type 0 where
  pub start : ℕ
  pub size : ℕ

abbrev empty : Span
empty = record { start = 0; size = 0 }

-- The part to show, by what load's input checks answer.
unfoldable pub shown_by : Result Header Refusal → ℕ → Span
shown_by (Ok h) p = cond (ltb p h.boxes) (record { start = place_start p; size = 10 }) empty
shown_by (Err r) p = empty

abbrev pub show_box : List ℕ → ℕ → Span
show_box f p = shown_by (check_file f) p

-- A reference to that part of what another refers to: its bytes, and its place in the same memory.
abbrev pub IsPart : Span → Bor (List ℕ) → Bor (List ℕ) → Type 0
IsPart s whole r = (r.now ≡ part whole.now s.start s.size) × (r.ref_ptr ≡ (whole.ref_ptr.0, s.start + whole.ref_ptr.1))
