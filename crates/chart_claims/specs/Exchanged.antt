-- 02, d: "A chart joined from a ticket with its box blocks out of order loaded." In edition 2 it is
-- refused. What changes places is whole blocks of 512 bytes, with their checks; a box block is any
-- but block 0.
use Rattle.std.specs.Prelude.{Ok, Err, ℕ, ◌≤◌, ◌<◌, ◌≡◌, List, ◌≢◌, cond, eqb}
use Rattle.block.specs.Refusing.{refusal}
use Rattle.format.specs.File.{addend, blocks_of, block_of, check_file}
use Rattle.format.specs.declared.Header.{Header}
use Rattle.chart.specs.Chart.{joined}

-- A file joined of a file's blocks: in place b stands block (from b).
unfoldable pub rearranged : (from : ℕ → ℕ) → List ℕ → List ℕ
rearranged from f = joined (λ b. block_of f (from b)) (blocks_of f)

-- The block that stands in place b where blocks i and j are exchanged.
unfoldable pub in_place_of : (i j b : ℕ) → ℕ
in_place_of i j b = cond (eqb b i) j (cond (eqb b j) i b)

abbrev pub exchanged : (i j : ℕ) → List ℕ → List ℕ
exchanged i j f = rearranged (in_place_of i j) f

-- "An accepted edition 2 file with two unequal box blocks exchanged is then always turned away":
-- any two are unequal, and it is refused by 2 with the lower of them as detail.
abbrev pub ExchangeRefused : Type 0
ExchangeRefused =
    (f : List ℕ) (h : Header) (i j : ℕ)
    → check_file f ≡ Ok h
    → h.edition ≡ 2
    → 1 ≤ i
    → i < j
    → j < blocks_of f
    → (block_of f i ≢ block_of f j) × (check_file (exchanged i j f) ≡ Err (refusal 2 i))

-- However blocks of the file follow its block 0, some of them twice or not at all: the detail is
-- the first block that is in another's place.
abbrev pub OutOfOrderRefused : Type 0
OutOfOrderRefused =
    (f : List ℕ) (h : Header) (from : ℕ → ℕ) (b : ℕ)
    → check_file f ≡ Ok h
    → h.edition ≡ 2
    → ((p : ℕ) → p < blocks_of f → from p < blocks_of f)
    → 1 ≤ b
    → b < blocks_of f
    → ((p : ℕ) → p < b → from p ≡ p)
    → from b ≢ b
    → check_file (rearranged from f) ≡ Err (refusal 2 b)

-- Document 01's check stays wherever byte 4 of block 0 is not 2.
abbrev pub OthersAddNothing : Type 0
OthersAddNothing = (edition b : ℕ) → edition ≢ 2 → addend edition b ≡ 0
