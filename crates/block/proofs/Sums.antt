-- Laws of the weighted sum: how a loop that goes up adds to it, and what a check is. sum_more,
-- sum_end; check_high, check_front. Assumes nothing.
use Rattle.std.proofs.Common.{◌-◌, [], ◌∷◌, ◌≡◌, ℕ, ◌+◌, ◌*◌, ◌/◌, ◌%◌, ◌<◌, List, length, take, ap, arith, take-take}
use Rattle.block.specs.Block.{weighted, checksum}

-- The sum s so far and the terms of the bytes that are left, the first of them by this weight, make
-- e: one term more, and all terms.
module _ (s w e : ℕ) where
  pub sum_more : (b : ℕ) (rest : List ℕ) → 0 < w → (s + weighted (w - 1) (b ∷ rest)) % 65536 ≡ e
      → ((s + w * b % 65536) % 65536 + weighted (w + 1 - 1) rest) % 65536 ≡ e
  unfolding weighted
  sum_more b rest q h =
      let here : w - 1 + 1 ≡ w = omega arith in
      let next : w + 1 - 1 ≡ w = omega arith in
      let sum = rw here at h in
      rw next (omega arith)

  pub sum_end : (rest : List ℕ) → length rest ≡ 0 → s < 65536 → (s + weighted (w - 1) rest) % 65536 ≡ e → s ≡ e
  unfolding weighted
  sum_end [] q f h = omega arith
  sum_end (b ∷ rest) q f h = absurd (omega arith)

-- A check has two bytes.
pub check_high : (added : ℕ) (block : List ℕ) → checksum added block / 256 % 256 ≡ checksum added block / 256
unfolding checksum
check_high added block = omega arith

-- The check does not see bytes 510 and 511.
pub check_front : (added : ℕ) (block : List ℕ) → checksum added (take 510 block) ≡ checksum added block
unfolding checksum
check_front added block = ap (λ (l : List ℕ). (weighted 0 l + added) % 65536) (take-take 510 510 block (omega arith))
