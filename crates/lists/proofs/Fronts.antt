-- What stands at the front of a list: one list after another (then_front), and a number after a
-- list (end_front). Assumes nothing.
use Prim.Native.Nat.{ℕ, suc, ◌-◌, ◌≤◌, ◌<◌}
use mathlib.Core.Path.{◌≡◌, ap, sym, ◌∙◌}
use mathlib.Core.List.{List, [], ◌∷◌, ◌++◌}
use native.Mathlib.Omega.{arith}
use lib.ListN.{length, take, drop, set, length-append, get_or}
use lib.Seq.{drop-drop, drop-cons, set_at, append_snoc}
use borrow.Rule.Slice.PartMut.{put_mid}
use Rattle.lists.proofs.Stores.{put_front}

abbrev pub front : List ℕ → List ℕ → List ℕ
front text out = text ++ drop (length text) out

past : (p s out : List ℕ) → drop (length s) (drop (length p) out) ≡ drop (length (p ++ s)) out
past p s out = drop-drop (length s) (length p) out ∙ ap (λ (k : ℕ). drop k out) (sym (length-append p s))

-- The rest after p, lent, came back with s at its front.
pub then_front : (p s out one part : List ℕ) (a k : ℕ) → one ≡ front p out → a ≡ length p → k ≡ length one - a → part ≡ front s (take k (drop a one))
    → put_mid a k one part ≡ front (p ++ s) out
then_front p s out one part a k e h q r =
    let rest : List ℕ = drop (length p) out in
    let enough : length rest ≤ k = omega (arith, q, ap length e, length-append p rest, h) in
    ap (put_mid a k one) r
    ∙ ap (λ (x : List ℕ). put_mid a k x (s ++ drop (length s) (take k (drop a x)))) e
    ∙ put_front p rest s a k (sym h) enough
    ∙ ap (λ (x : List ℕ). (p ++ s) ++ x) (past p s out)

pub end_front : (p out one : List ℕ) (x a : ℕ) → one ≡ front p out → a ≡ length p → a < length out → set one a x ≡ front (p ++ (x ∷ [])) out
end_front p out one x a e h l =
    let longer : suc (length p) ≡ length (p ++ (x ∷ [])) = omega (arith, length-append p (x ∷ [])) in
    ap (λ (o : List ℕ). set o a x) (e ∙ ap (λ (t : List ℕ). p ++ t) (drop-cons out (length p) 0 (omega arith)))
    ∙ set_at p (get_or out (length p) 0) _ x a (sym h)
    ∙ sym (append_snoc p x _)
    ∙ ap (λ (k : ℕ). (p ++ (x ∷ [])) ++ drop k out) longer
