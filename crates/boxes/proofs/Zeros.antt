-- Bytes that are all 0 are so many zeros. Assumes nothing.
use Prim.Native.Nat.{ℕ}
use mathlib.Core.Path.{◌≡◌, refl}
use mathlib.Core.List.{List, [], ◌∷◌}
use mathlib.Core.Bool.{true}
use lib.Dec.{eqb}
use lib.ListN.{length, replicate}
use borrow.Author.Tests.{eqb-true}
use Rattle.boxes.specs.Bytes.{all_zero}
use Rattle.boxes.proofs.Bools.{and_left, and_right}

pub zeros_are : (xs : List ℕ) → all_zero xs ≡ true → xs ≡ replicate (length xs) 0
unfolding all_zero
zeros_are [] e = refl
zeros_are (x ∷ xs) e =
    let z : x ≡ 0 = eqb-true x 0 (and_left (eqb x 0) (all_zero xs) e) in
    let rest : xs ≡ replicate (length xs) 0 = zeros_are xs (and_right (eqb x 0) (all_zero xs) e) in
    cc
