-- Laws of parts: the first n of a list that is shorter, the first n of what begins with the first
-- n, what is left of the first n after some of them, and zeros dropped. Assumes nothing.
use Prim.Native.Nat.{ℕ, zero, suc, ◌-◌, min}
use mathlib.Core.Path.{◌≡◌, refl, ap, sym, ◌∙◌}
use mathlib.Core.List.{List, [], ◌∷◌, ◌++◌}
use native.Mathlib.Nat.{sub-zero, zero-sub, suc-sub-suc}
use native.Mathlib.Omega.{arith}
use lib.ListN.{length, take, drop, replicate, length-take}
use lib.Seq.{take-nil, take-length, take-take}

pub take_min : (n : ℕ) (l : List ℕ) → take (min n (length l)) l ≡ take n l
take_min n l =
    sym (take-take (min n (length l)) n l (omega arith)) ∙ ap (λ (m : ℕ). take m (take n l)) (sym (length-take n l)) ∙ take-length (take n l)

pub take_again : (n : ℕ) (l r : List ℕ) → take n (take n l ++ r) ≡ take n (l ++ r)
take_again zero l r = refl
take_again (suc n) [] r = refl
take_again (suc n) (x ∷ l) r = ap (λ (t : List ℕ). x ∷ t) (take_again n l r)

pub drop_take : (k n : ℕ) (l : List ℕ) → drop k (take n l) ≡ take (n - k) (drop k l)
drop_take zero n l = ap (λ (m : ℕ). take m l) (sym (sub-zero n))
drop_take (suc k) zero l = ap (λ (m : ℕ). take m (drop (suc k) l)) (sym (zero-sub (suc k)))
drop_take (suc k) (suc n) [] = sym (take-nil (suc n - suc k))
drop_take (suc k) (suc n) (x ∷ l) = drop_take k n l ∙ ap (λ (m : ℕ). take m (drop k l)) (sym (suc-sub-suc n k))

pub drop_replicate : (k n v : ℕ) → drop k (replicate n v) ≡ replicate (n - k) v
drop_replicate zero n v = ap (λ (m : ℕ). replicate m v) (sym (sub-zero n))
drop_replicate (suc k) zero v = ap (λ (m : ℕ). replicate m v) (sym (zero-sub (suc k)))
drop_replicate (suc k) (suc n) v = drop_replicate k n v ∙ ap (λ (m : ℕ). replicate m v) (sym (suc-sub-suc n k))
