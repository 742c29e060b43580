-- The chart file as load's input checks 1 to 6 see it. A rule is true of a file that keeps it; the
-- refusal that it stands for is quoted.
use Rattle.std.specs.Prelude.{ℕ, ◌+◌, ◌*◌, ◌-◌, ◌/◌, ◌%◌, List, Bool, Result, Ok, Err, cond, not, ◌&&◌, ◌||◌, eqb, ltb, leb, length}
use Rattle.boxes.specs.Bytes.{at, part, all_zero}
use Rattle.format.specs.Search.{first_failing}
use Rattle.boxes.specs.Box.{well_formed}
use Rattle.block.specs.Block.{is_sealed}
use Rattle.block.specs.Refusing.{refuse_into}
use Rattle.block.specs.declared.Refusal.{Refusal}
use Rattle.format.specs.declared.Header.{Header}

-- "Blocks of 512 bytes": how many a file has, and block j of it.
abbrev pub blocks_of : List ℕ → ℕ
blocks_of f = length f / 512

abbrev pub block_of : List ℕ → ℕ → List ℕ
block_of f j = part f (512 * j) 512

-- Block 0: "byte 4 the edition"; "byte 5 the number of inputs k"; "byte 6 the number of boxes n";
-- "byte 7 the first box run".
abbrev pub header_of : List ℕ → Header
header_of f = record { edition = at f 4; inputs = at f 5; boxes = at f 6; first = at f 7 }

-- "Each later block holds 51 boxes of ten bytes, box 0 first": where place p starts, and its ten
-- bytes.
abbrev pub place_start : ℕ → ℕ
place_start p = 512 * (1 + p / 51) + 10 * (p % 51)

abbrev pub place_of : List ℕ → ℕ → List ℕ
place_of f p = part f (place_start p) 10

-- "The file has 1 + (n divided by 51, rounded up) blocks."
abbrev pub blocks_for : ℕ → ℕ
blocks_for n = 1 + (n + 50) / 51

-- "1: file length isn't 1,024, 1,536, 2,048 or 2,560."
abbrev pub length_rule : ℕ → Bool
length_rule bytes = eqb bytes 1024 || eqb bytes 1536 || eqb bytes 2048 || eqb bytes 2560

-- 02, d: "When byte 4 of block 0 is 2, the check of block b adds 511 × b before the modulus is
-- taken." What it adds, by that byte.
unfoldable pub addend : (edition b : ℕ) → ℕ
addend edition b = cond (eqb edition 2) (511 * b) 0

-- "2: a block's check differs." 02, d: "It refuses a block whose changed check differs by 2, in the
-- old place", so byte 4 of block 0 counts whatever the letters are.
unfoldable pub check_rule : List ℕ → Header → ℕ → Bool
check_rule f h b = is_sealed (addend h.edition b) (block_of f b)

-- 02, c: "an edition byte other than 1 or 2" is refused.
abbrev pub is_edition : ℕ → Bool
is_edition edition = eqb edition 1 || eqb edition 2

-- "3: the letters or the edition are wrong." The letters are FLOW.
abbrev pub letters_rule : List ℕ → Bool
letters_rule f = eqb (at f 0) 70 && eqb (at f 1) 76 && eqb (at f 2) 79 && eqb (at f 3) 87 && is_edition (header_of f).edition

-- "the number of inputs k, 0 to 16"; "the number of boxes n, 1 to 204"; "the first box run, below
-- n".
abbrev pub in_range : Header → Bool
in_range h = leb h.inputs 16 && leb 1 h.boxes && leb h.boxes 204 && ltb h.first h.boxes

-- "4: k, n, the first box, or bytes 8 to 509 of block 0 break a rule."
unfoldable pub header_rule : List ℕ → Bool
header_rule f = in_range (header_of f) && all_zero (part f 8 502)

-- Ten bytes that break no rule of a box, in a chart of this header.
abbrev pub box_rule : Header → List ℕ → Bool
box_rule h b = well_formed h.edition h.inputs h.boxes b

-- "6: a box, or a place after the last box, breaks a rule." "places from n on are all 0".
unfoldable pub place_rule : List ℕ → Header → ℕ → Bool
place_rule f h p = cond (ltb p h.boxes) (box_rule h (place_of f p)) (all_zero (place_of f p))

-- A rule of a chart's file, which refuses it by a number and a detail where it is broken.
abbrev pub refuse_if : (broken : Bool) (number detail : ℕ) → Result Header Refusal → Result Header Refusal
refuse_if broken number detail otherwise = refuse_into Err broken number detail otherwise

-- Load's input checks, "1 to 6 in order": "2: .. Detail: the first such block." "5: the length
-- doesn't fit n." "6: .. Detail: the first such place."
unfoldable pub check_file : List ℕ → Result Header Refusal
check_file f =
    let blocks = blocks_of f in
    let wrong = first_failing (check_rule f (header_of f)) blocks in
    let places = 51 * (blocks - 1) in
    let broken = first_failing (place_rule f (header_of f)) places in
    refuse_if (not (length_rule (length f))) 1 0
    (refuse_if (ltb wrong blocks) 2 wrong
    (refuse_if (not (letters_rule f)) 3 0
    (refuse_if (not (header_rule f)) 4 0
    (refuse_if (not (eqb blocks (blocks_for (header_of f).boxes))) 5 0
    (refuse_if (ltb broken places) 6 broken
    (Ok (header_of f)))))))
