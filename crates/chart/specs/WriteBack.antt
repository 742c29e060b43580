-- A chart's file written into a buffer, by write back and by the converter: its length, the room
-- for it, and the buffer afterwards.
use Rattle.std.specs.Prelude.{ℕ, ◌*◌, List, ◌++◌, Bool, cond, ◌&&◌, leb, length, drop}
use Rattle.format.specs.File.{blocks_for, in_range}
use Rattle.format.specs.declared.Header.{Header}
use Rattle.chart.specs.Chart.{file_of}

-- The length of a chart's file.
abbrev pub file_length : Header → ℕ
file_length h = 512 * blocks_for h.boxes

-- "The file is put at its front; each block is written into its own part of the lent buffer, and
-- bytes past the file are untouched."
unfoldable pub with_file : Header → (table buffer : List ℕ) → List ℕ
with_file h table buffer = file_of h table ++ drop (file_length h) buffer

-- A buffer of so many bytes is not "shorter than the file".
abbrev pub has_room : Header → ℕ → Bool
has_room h room = leb (file_length h) room

-- The header's numbers of inputs and boxes and its first box are those of a file, and there is room
-- for it.
abbrev pub takes_file : Header → ℕ → Bool
takes_file h room = in_range h && has_room h room

-- The buffer with the file where it takes it, else as it was.
unfoldable pub put_file : Header → (table buffer : List ℕ) → List ℕ
put_file h table buffer = cond (takes_file h (length buffer)) (with_file h table buffer) buffer
