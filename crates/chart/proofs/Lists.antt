-- Laws on lists: the length of a part, a part of a part, zeros past a list.
-- length_part, part_part; part_zeros. Assumes nothing.
use Prim.Native.Nat.{ℕ, zero, suc, ◌+◌, ◌-◌, ◌≤◌}
use mathlib.Core.Path.{◌≡◌, refl, ap, ◌∙◌}
use mathlib.Core.Bool.{true}
use mathlib.Core.List.{List, ◌++◌}
use native.Mathlib.Omega.{arith}
use lib.ListN.{length, take, drop, replicate, length-take, length-drop}
use lib.Seq.{take-take, drop-drop, drop-append-add}
use Rattle.std.proofs.lemmas.List.{drop-replicate}
use Rattle.lists.proofs.Parts.{drop_take}
use Rattle.boxes.specs.Bytes.{part, all_zero}

pub length_part : (f : List ℕ) (a size : ℕ) → a + size ≤ length f → length (part f a size) ≡ size
length_part f a size h = simp (length-take, length-drop) (omega arith)

pub part_part : (f : List ℕ) (a n b m : ℕ) → b + m ≤ n → part (part f a n) b m ≡ part f (a + b) m
part_part f a n b m h =
    let fits : m ≤ n - b = omega arith in
    ap (take m) (drop_take b n (drop a f)) ∙ take-take m (n - b) (drop b (drop a f)) fits ∙ ap (take m) (drop-drop b a f)

zeros : (m n : ℕ) → all_zero (take m (replicate n 0)) ≡ true
unfolding all_zero
zeros zero n = refl
zeros (suc m) zero = refl
zeros (suc m) (suc n) = zeros m n

-- A part past p of p and so many zeros is zeros.
pub part_zeros : (p : List ℕ) (n a m : ℕ) → length p ≤ a → all_zero (part (p ++ replicate n 0) a m) ≡ true
part_zeros p n a m h =
    let past : a ≡ length p + (a - length p) = omega arith in
    ap (λ (x : ℕ). all_zero (part (p ++ replicate n 0) x m)) past
    ∙ ap (λ (l : List ℕ). all_zero (take m l)) (drop-append-add p (replicate n 0) (a - length p) ∙ drop-replicate (a - length p) n 0)
    ∙ zeros m (n - (a - length p))
