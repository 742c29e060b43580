-- What stores leave: a copy (copied), a part that was lent and came back (put_front), and a loop
-- that fills an array of zeros from the front (fill). Assumes nothing.
use Prim.Native.Nat.{ℕ, suc, ◌+◌, ◌-◌, ◌≤◌, ◌<◌}
use mathlib.Core.Path.{◌≡◌, ap, sym, ◌∙◌}
use mathlib.Core.List.{List, [], ◌∷◌, ◌++◌, append_assoc, append-nil}
use native.Mathlib.Omega.{arith}
use lib.ListN.{length, take, drop, set, replicate, drop_of_length-le}
use lib.Seq.{take-length, take_at, drop_at, take_all, set_at, append_snoc}
use borrow.Rule.Slice.PartMut.{put_mid}

-- What the copy of s to the front of d leaves.
pub copied : (s d e : List ℕ) (n : ℕ) → e ≡ take (length s) s ++ drop (length s) d → length s ≡ n → e ≡ s ++ drop n d
copied s d e n q h = q ∙ rw (take-length s, h)

-- The rest r of a list, lent from a on as far as the list goes, came back with s at its front.
pub put_front : (p r s : List ℕ) (a k : ℕ) → length p ≡ a → length r ≤ k
    → put_mid a k (p ++ r) (s ++ drop (length s) (take k (drop a (p ++ r)))) ≡ (p ++ s) ++ drop (length s) r
put_front p r s a k h l =
    rw (take_at p r a h, drop_at p r a h, take_all k r l, drop_of_length-le r l, append-nil, append_assoc)

-- What is done stands at the front of so many places, zeros after it; a store at its end does one
-- more.
pub fill : (size : ℕ) (done next places : List ℕ) (j x : ℕ) → length done ≡ j → j < size → next ≡ done ++ (x ∷ []) → places ≡ done ++ replicate (size - j) 0
    → set places j x ≡ next ++ replicate (size - (j + 1)) 0
fill size done next places j x e l n p =
    let rest : List ℕ = replicate (size - (j + 1)) 0 in
    let left : size - j ≡ suc (size - (j + 1)) = omega arith in
    ap (λ (s : List ℕ). set s j x) (p ∙ ap (λ (m : ℕ). done ++ replicate m 0) left)
    ∙ set_at done 0 rest x j e
    ∙ sym (append_snoc done x rest)
    ∙ ap (λ (d : List ℕ). d ++ rest) (sym n)
