-- What the run program prints: "the chart line (k and n), then a line per run". A text is a list of
-- bytes that ends with a newline.
use Rattle.std.specs.Prelude.{ℕ, zero, suc, ◌+◌, ◌/◌, ◌%◌, List, [], ◌∷◌, ◌++◌, cond, ltb, length, drop, codes, flat_map}

-- A number in decimal, without extra leading zeros, in at most so many digits.
unfoldable pub decimal_in : ℕ → ℕ → List ℕ
decimal_in zero n = []
decimal_in (suc most) n = cond (ltb n 10) ((48 + n) ∷ []) (decimal_in most (n / 10) ++ ((48 + n % 10) ∷ []))

-- 20 digits are enough for every number of 64 bits.
abbrev pub decimal : ℕ → List ℕ
decimal n = decimal_in 20 n

-- A word and a number.
unfoldable pub clause : List ℕ → ℕ → List ℕ
clause word n = word ++ decimal n

-- Clauses, then the newline.
unfoldable pub sentence : List (List ℕ × ℕ) → List ℕ
sentence clauses = flat_map (λ c. clause c.0 c.1) clauses ++ (10 ∷ [])

abbrev pub chart_text : ℕ → ℕ → List ℕ
chart_text k n = sentence ((codes "chart inputs ", k) ∷ (codes " boxes ", n) ∷ [])

abbrev pub value_text : ℕ → ℕ → List ℕ
value_text value steps = sentence ((codes "value ", value) ∷ (codes " steps ", steps) ∷ [])

-- 02, a: "The run program prints the set as a decimal number after each notice".
abbrev pub notice_text : ℕ → ℕ → List ℕ
notice_text steps named = sentence ((codes "notice steps ", steps) ∷ (codes " inputs ", named) ∷ [])

abbrev pub spent_text : ℕ → List ℕ
spent_text steps = sentence ((codes "spent steps ", steps) ∷ [])

abbrev pub refused_text : ℕ → ℕ → List ℕ
refused_text number detail = sentence ((codes "refused ", number) ∷ (codes " detail ", detail) ∷ [])

-- A text at the front of a lent buffer, the bytes past it untouched; every text fits in 64 bytes,
-- and a shorter buffer is left as it was.
unfoldable pub printed : List ℕ → List ℕ → List ℕ
printed text out = cond (ltb (length out) 64) out (text ++ drop (length text) out)

-- How many bytes of a buffer of so many were printed on.
unfoldable pub printed_length : List ℕ → ℕ → ℕ
printed_length text room = cond (ltb room 64) 0 (length text)
