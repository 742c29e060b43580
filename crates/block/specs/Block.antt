-- "In each block, bytes 510 and 511 (low byte first) hold the check: the sum over bytes 0 to 509 of
-- (position + 1) times byte, modulo 65,536." 02, d, has a check that adds a number "before the
-- modulus is taken". The definitions are of any bytes; a block has 512.
use Rattle.std.specs.Prelude.{ℕ, ◌+◌, ◌*◌, ◌/◌, ◌%◌, Bool, ◌&&◌, List, [], ◌∷◌, ◌++◌, take, ◌==◌, slice_set}
use Rattle.boxes.specs.Bytes.{at}

-- The sum of (position + 1) times byte, where the first byte has position i.
unfoldable pub weighted : ℕ → List ℕ → ℕ
weighted i [] = 0
weighted i (b ∷ bytes) = (i + 1) * b + weighted (i + 1) bytes

-- The check of a block, with so much added; document 01's check adds 0.
unfoldable pub checksum : (added : ℕ) → List ℕ → ℕ
checksum added block = (weighted 0 (take 510 block) + added) % 65536

-- Bytes 510 and 511 of a block hold its check, with so much added.
unfoldable pub is_sealed : (added : ℕ) → List ℕ → Bool
is_sealed added block = at block 510 == checksum added block % 256 && at block 511 == checksum added block / 256

-- The block with its check, with so much added, in bytes 510 and 511, where it has them.
unfoldable pub with_seal : (added : ℕ) → List ℕ → List ℕ
with_seal added block = slice_set (slice_set block 510 (checksum added block % 256)) 511 (checksum added block / 256)

-- The block whose bytes 0 to 509 are these: they and their check, with so much added.
unfoldable pub seal : (added : ℕ) → List ℕ → List ℕ
seal added body = body ++ (checksum added body % 256 ∷ checksum added body / 256 ∷ [])
