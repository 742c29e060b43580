-- What fills the front of 32 places that are 0 at first: a copy of the inputs, and a loop over the
-- marks. Assumes nothing.
use Rattle.std.proofs.Common.{◌≡◌, ℕ, ◌+◌, ◌-◌, ◌<◌, ◌≤◌, min, List, [], ◌∷◌, ◌++◌, set, take, drop, replicate, length, ap, add-one, arith}
use Rattle.std.proofs.lemmas.List.{take_min, length-take-le, take-replicate, drop-replicate, append-nil}
use Rattle.lists.proofs.Stores.{fill}
use Rattle.begin.specs.Begin.{first_vars, withheld_mark, withheld_marks, first_marks}
use Rattle.begin.proofs.Begins.{length_withheld}

-- The variables.
pub vars_copied : (i : List ℕ) (n : ℕ) → n ≡ min 32 (length i) → take n i ++ drop n (replicate 32 0) ≡ first_vars i
unfolding first_vars
vars_copied i n e =
    let left : 32 - n ≡ 32 - length i = omega arith in
    rw (drop-replicate, left, e, take_min)

-- The marks: none, one more and all of so many places.
abbrev pub places : ℕ → List ℕ
places n = take n (replicate 32 0)

pub places_long : (n : ℕ) → n ≤ 32 → length (places n) ≡ n
places_long n few = length-take-le n (replicate 32 0) few

pub marks_none : (a n : ℕ) → n ≤ 32 → places n ≡ withheld_marks a 0 ++ replicate (n - 0) 0
unfolding withheld_marks
marks_none a n few =
    let all : n - 0 ≡ n = omega arith in
    rw all (take-replicate n 32 0 few)

pub marks_more : (a end j : ℕ) (places : List ℕ) → j < end → places ≡ withheld_marks a j ++ replicate (end - j) 0
    → set places j (withheld_mark a j) ≡ withheld_marks a (j + 1) ++ replicate (end - (j + 1)) 0
unfolding withheld_marks
marks_more a end j places l p =
    let next : withheld_marks a (j + 1) ≡ withheld_marks a j ++ (withheld_mark a j ∷ []) = ap (withheld_marks a) (add-one j) in
    fill end (withheld_marks a j) _ places j _ (length_withheld a j) l next p

pub marks_filled : (a k n j : ℕ) (places : List ℕ) → n ≡ min 16 k → n ≡ j → places ≡ withheld_marks a j ++ replicate (n - j) 0
    → places ++ drop n (replicate 32 0) ≡ first_marks a k
unfolding first_marks
marks_filled a k n j places e all p =
    let none : n - j ≡ 0 = omega arith in
    rw (p, none, append-nil, drop-replicate, ← all, e)
