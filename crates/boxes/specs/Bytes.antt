-- What the rules of the chart file say of lists of bytes.
use Rattle.std.specs.Prelude.{ℕ, ◌*◌, List, Bool, eqb, get_or, take, drop}
use Rattle.std.specs.List.{list_all}

-- Byte i, and 0 past the end.
abbrev pub at : List ℕ → ℕ → ℕ
at bytes i = get_or bytes i 0

-- The part of size bytes that starts at byte i, fewer where the list ends.
abbrev pub part : List ℕ → ℕ → ℕ → List ℕ
part bytes i size = take size (drop i bytes)

-- Every byte is 0.
unfoldable pub all_zero : List ℕ → Bool
all_zero bytes = list_all (λ b. eqb b 0) bytes

-- Box p of a table of boxes, ten bytes each.
abbrev pub box_of : List ℕ → ℕ → List ℕ
box_of table p = part table (10 * p) 10
