-- The lines of an input: "then a newline (the last may lack it)"; "nothing after the last newline
-- is no line". A newline is byte 10.
use Rattle.std.specs.Prelude.{ℕ, Bool, true, false, cond, List, [], ◌∷◌, ◌==◌}

-- A byte before the lines after it: the first of them goes on with it. Where there is none, it is
-- the last line, if that may lack its newline.
unfoldable pub prefixed : (lacking : Bool) → ℕ → List (List ℕ) → List (List ℕ)
prefixed true b [] = (b ∷ []) ∷ []
prefixed false b [] = []
prefixed lacking b (line ∷ lines) = (b ∷ line) ∷ lines

-- The lines of some bytes, without their newlines.
unfoldable pub lines_in : (lacking : Bool) → List ℕ → List (List ℕ)
lines_in lacking [] = []
lines_in lacking (b ∷ bytes) = cond (b == 10) ([] ∷ lines_in lacking bytes) (prefixed lacking b (lines_in lacking bytes))

-- All lines of an input, and those that have ended.
abbrev pub lines_of : List ℕ → List (List ℕ)
lines_of bytes = lines_in true bytes

abbrev pub whole_lines : List ℕ → List (List ℕ)
whole_lines bytes = lines_in false bytes
