-- Laws of the file's parts: the length that check 1 asks, and the places within it. Assumes
-- nothing.
use Prim.Native.Nat.{ℕ, ◌+◌, ◌*◌, ◌-◌, ◌/◌, ◌≤◌}
use mathlib.Core.Path.{◌≡◌, ap}
use mathlib.Core.List.{List}
use mathlib.Core.Bool.{true}
use mathlib.Core.Logic.{⊎_elim}
use native.Mathlib.Nat.{add-sub_cancel_left}
use native.Mathlib.Omega.{arith}
use lib.Dec.{eqb}
use lib.ListN.{take, drop}
use borrow.Author.Tests.{eqb-true}
use Rattle.boxes.specs.Bytes.{part}
use Rattle.format.specs.File.{length_rule}
use Rattle.boxes.proofs.Bools.{or_cases}

-- A part whose end is written as its start and its size.
pub part_to : (f : List ℕ) (a size : ℕ) → take (a + size - a) (drop a f) ≡ part f a size
part_to f a size = ap (λ (m : ℕ). take m (drop a f)) (add-sub_cancel_left a size)

-- A length that check 1 passes is that of 2 to 5 whole blocks.
pub record Blocks (n : ℕ) : Type 0 where
  pub whole : n ≡ 512 * (n / 512)
  pub least : 2 ≤ n / 512
  pub most : n / 512 ≤ 5

pub blocks_of_lem : (n : ℕ) → length_rule n ≡ true → Blocks n
blocks_of_lem n e =
    ⊎_elim
    (λ d. ⊎_elim (λ d'. ⊎_elim (is 1024 (omega arith)) (is 1536 (omega arith)) (or_cases _ _ d')) (is 2048 (omega arith)) (or_cases _ _ d))
    (is 2560 (omega arith))
    (or_cases _ _ e)
  where
    is : (m : ℕ) → Blocks m → eqb n m ≡ true → Blocks n
    is m b d = rw (eqb-true n m d) b
