-- The chart that a file holds, and the file that holds a chart: a header and a table of 204 places
-- of ten bytes.
use Rattle.std.specs.Prelude.{ℕ, zero, suc, ◌+◌, ◌*◌, ◌-◌, ◌/◌, min, List, [], ◌∷◌, ◌++◌, length, replicate}
use Rattle.boxes.specs.Bytes.{part}
use Rattle.block.specs.Block.{seal}
use Rattle.format.specs.File.{header_of, blocks_for, addend}
use Rattle.format.specs.declared.Header.{Header}

-- piece 0, piece 1, .., piece (count - 1), one after the other.
unfoldable pub joined : (ℕ → List ℕ) → ℕ → List ℕ
joined piece zero = []
joined piece (suc count) = joined piece count ++ piece count

-- The blocks of boxes in a file of so many bytes: all but block 0, and a table has room for four.
abbrev pub box_blocks : ℕ → ℕ
box_blocks bytes = min 4 (bytes / 512 - 1)

-- The 51 boxes of block 1 + j.
abbrev pub boxes_of : List ℕ → ℕ → List ℕ
boxes_of f j = part f (512 * (1 + j)) 510

-- The box table of a file, 2,040 bytes: its boxes, and 0 past them.
unfoldable pub table_of : List ℕ → List ℕ
table_of f = joined (boxes_of f) (box_blocks (length f)) ++ replicate (2040 - 510 * box_blocks (length f)) 0

-- A chart: its header and its box table; and the chart of a file.
pub record Chart : Type 0 where
  pub header : Header
  pub table : List ℕ

abbrev pub chart_of : List ℕ → Chart
chart_of f = record { header = header_of f; table = table_of f }

-- Bytes 0 to 509 of block 0: "the ASCII letters FLOW; byte 4 the edition ..; byte 5 the number of
-- inputs k ..; byte 6 the number of boxes n ..; byte 7 the first box run ..; bytes 8 to 509 are 0".
unfoldable pub header_body : Header → List ℕ
header_body h = (70 ∷ 76 ∷ 79 ∷ 87 ∷ h.edition ∷ h.inputs ∷ h.boxes ∷ h.first ∷ []) ++ replicate 502 0

-- Bytes 0 to 509 of block j: the header, or 51 boxes of the table.
unfoldable pub body_of : Header → List ℕ → ℕ → List ℕ
body_of h table zero = header_body h
body_of h table (suc j) = part table (510 * j) 510

-- Block j of a chart's file: those bytes and their check.
abbrev pub sealed_block : Header → List ℕ → ℕ → List ℕ
sealed_block h table j = seal (addend h.edition j) (body_of h table j)

-- The file of a chart: its blocks.
unfoldable pub file_of : Header → List ℕ → List ℕ
file_of h table = joined (sealed_block h table) (blocks_for h.boxes)
