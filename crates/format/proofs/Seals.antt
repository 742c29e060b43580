-- A block is sealed for one place of an edition 2 file alone. Assumes nothing.
use Prim.Native.Nat.{ℕ, ◌+◌, ◌*◌, ◌/◌, ◌%◌, ◌≤◌, ◌<◌}
use mathlib.Core.Path.{◌≡◌}
use mathlib.Core.List.{List}
use mathlib.Core.Bool.{true}
use native.Mathlib.Decide.{dec_lt}
use native.Mathlib.Omega.{arith}
use lib.ListN.{take}
use Rattle.block.specs.Block.{weighted, checksum, is_sealed}
use Rattle.block.proofs.Seals.{sealed_bytes}
use Rattle.format.specs.File.{addend}

-- 511 times a difference of places is less than 65,536.
one_place : (sum i j : ℕ) → i ≤ 4 → j ≤ 4 → (sum + 511 * i) % 65536 ≡ (sum + 511 * j) % 65536 → i ≡ j
one_place sum i j few few' e = on (dec_lt ((sum + 511 * i) / 65536) ((sum + 511 * j) / 65536)) (dec_lt ((sum + 511 * j) / 65536) ((sum + 511 * i) / 65536))
  where
    on : Dec ((sum + 511 * i) / 65536 < (sum + 511 * j) / 65536) → Dec ((sum + 511 * j) / 65536 < (sum + 511 * i) / 65536) → i ≡ j
    on (yes below) above = absurd (omega arith)
    on (no same) (yes above) = absurd (omega arith)
    on (no same) (no same') = omega arith

pub sealed_once : (i j : ℕ) (block : List ℕ) → i ≤ 4 → j ≤ 4 → is_sealed (addend 2 i) block ≡ true → is_sealed (addend 2 j) block ≡ true → i ≡ j
unfolding addend checksum
sealed_once i j block few few' ei ej =
    let at_i = sealed_bytes (addend 2 i) block ei in
    let at_j = sealed_bytes (addend 2 j) block ej in
    one_place (weighted 0 (take 510 block)) i j few few' (omega arith)
