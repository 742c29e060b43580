-- "lines from standard input: mode, allowed set, limit, inputs. That is 3 to 19 decimal numbers up
-- to 4,294,967,295, without extra leading zeros, one space between, at most 255 bytes, then a
-- newline": a line without its newline, as its numbers.
use Rattle.std.specs.Prelude.{ℕ, ◌+◌, ◌*◌, ◌-◌, List, [], ◌∷◌, ◌++◌, map, Bool, true, false, cond, not, ◌&&◌, eqb, ltb, leb, length, replicate, Option, None, Some}
use Rattle.std.specs.List.{slice_split}
use Rattle.std.specs.Str.{all_ascii_digits}
use Rattle.line.specs.declared.parsing.Numbers.{Numbers}

-- "one space between": the parts of a line, which its spaces cut.
abbrev pub parts : List ℕ → List (List ℕ)
parts line = slice_split (λ b. eqb b 32) line

-- The number that digits go on to from v, and the number that they are.
unfoldable pub number_from : ℕ → List ℕ → ℕ
number_from v [] = v
number_from v (b ∷ bytes) = number_from (10 * v + (b - 48)) bytes

abbrev pub number_of : List ℕ → ℕ
number_of bytes = number_from 0 bytes

-- An extra leading zero: a 0 with a byte after it.
unfoldable pub extra_zero : List ℕ → Bool
extra_zero [] = false
extra_zero (b ∷ []) = false
extra_zero (b ∷ c ∷ bytes) = eqb b 48

-- One of the "decimal numbers up to 4,294,967,295, without extra leading zeros".
unfoldable pub is_number : List ℕ → Bool
is_number bytes = ltb 0 (length bytes) && all_ascii_digits bytes && not (extra_zero bytes) && leb (number_of bytes) 4294967295

unfoldable pub all_numbers : List (List ℕ) → Bool
all_numbers [] = true
all_numbers (p ∷ ps) = is_number p && all_numbers ps

unfoldable pub is_line : List ℕ → Bool
is_line line = leb (length line) 255 && leb 3 (length (parts line)) && leb (length (parts line)) 19 && all_numbers (parts line)

-- A line's numbers, and none where it is ill-formed.
unfoldable pub parse : List ℕ → Option (List ℕ)
parse line = cond (is_line line) (Some (map number_of (parts line))) None

-- At most 19 numbers, then zeros: as the code has them.
unfoldable pub numbers_of : List ℕ → Numbers
numbers_of ns = record { numbers = ns ++ replicate (19 - length ns) 0; count = length ns }
