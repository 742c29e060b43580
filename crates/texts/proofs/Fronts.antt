-- A clause at the front of a buffer, clauses one after another, and a text in a buffer with room or
-- without. Assumes nothing.
use Rattle.std.proofs.Common.{◌≡◌, ℕ, ◌+◌, ◌<◌, ◌≤◌, List, [], ◌∷◌, ◌++◌, map, Bool, true, false, cond, ltb, length, take, drop, set, flat_map, sum_by, take_all, refl, ap, sym, ◌∙◌, arith, append_assoc, length-append, lt-ltb, le-ltb, Bor}
use lib.Seq.{take-append_seam, drop-append_seam, drop-drop}
use borrow.Rule.Slice.PartMut.{put_mid}
use Rattle.lists.proofs.Fronts.{front, end_front}
use Rattle.texts.specs.Printing.{decimal, clause, printed, printed_length}

-- A word at the front, and its number's digits in the part after it.
pub length-clause : (w ds : List ℕ) (n : ℕ) → ds ≡ decimal n → length w + length ds ≡ length (clause w n)
unfolding clause
length-clause w ds n d = ap (λ (x : List ℕ). length w + length x) d ∙ sym (length-append w (decimal n))

pub clause_front : (w first ds out : List ℕ) (n k : ℕ) → first ≡ w → ds ≡ decimal n → k ≡ length ds
    → put_mid (length w) k (first ++ drop (length w) out) ds ≡ front (clause w n) out
unfolding clause
clause_front w first ds out n k f d h =
    let rest : List ℕ = drop (length w) out in
    let longer : length w + k ≡ length (w ++ ds) = omega (arith, length-append w ds) in
    rw (f, take-append_seam w rest, drop-append_seam w rest)
    (ap (λ (t : List ℕ). w ++ (ds ++ t)) (drop-drop k (length w) out ∙ ap (λ (m : ℕ). drop m out) longer)
    ∙ sym (append_assoc w ds (drop (length (w ++ ds)) out))
    ∙ ap (λ (x : List ℕ). front (w ++ x) out) d)

-- Clauses with words that are lent: what they say, and how much room they take at most.
abbrev pub Clauses : Type 0
Clauses = List (Bor (List ℕ) × ℕ)

abbrev pub said : Clauses → List ℕ
said cs = flat_map (λ (c : List ℕ × ℕ). clause c.0 c.1) (map (λ (c : Bor (List ℕ) × ℕ). (c.0.now, c.1)) cs)

abbrev pub room : Clauses → ℕ
room cs = sum_by (λ (c : Bor (List ℕ) × ℕ). length c.0.now + 20) cs

-- The first i clauses stand at the front, and the others have room after them.
pub record Holds (cs : Clauses) (out one : List ℕ) (a i : ℕ) : Type 0 where
  pub within : a + room (drop i cs) < 64
  pub counts : a ≡ length (said (take i cs))
  pub stands : one ≡ front (said (take i cs)) out

-- After all the clauses, the newline.
pub newline : (cs : Clauses) (out one : List ℕ) (a i : ℕ) → Holds cs out one a i → length cs ≤ i → 64 ≤ length out
    → (a + 1 ≡ length (said cs ++ 10 ∷ [])) × (set one a 10 ≡ front (said cs ++ 10 ∷ []) out)
newline cs out one a i h l m =
    let all : take i cs ≡ cs = take_all i cs l in
    let counted : a ≡ length (said cs) = h.counts ∙ ap (λ (x : Clauses). length (said x)) all in (
      omega (arith, counted, length-append (said cs) (10 ∷ [])),
      end_front (said cs) out one 10 a (h.stands ∙ ap (λ (x : Clauses). front (said x) out) all) counted (omega (arith, h.within)),
    )

module _ (text out : List ℕ) where
  pub no_room : length out < 64 → (0 ≡ printed_length text (length out)) × (out ≡ printed text out)
  unfolding printed printed_length
  no_room l = (rw (lt-ltb (length out) 64 l) refl, rw (lt-ltb (length out) 64 l) refl)

  pub with_room : (r : ℕ) (after : List ℕ) → 64 ≤ length out → r ≡ length text → after ≡ front text out
      → (r ≡ printed_length text (length out)) × (after ≡ printed text out)
  unfolding printed printed_length
  with_room r after l e f = (rw (le-ltb (length out) 64 l) e, rw (le-ltb (length out) 64 l) f)

  -- What was printed is at the front.
  pub printed_counts : length (printed text out) ≡ length out
      → (printed_length text (length out) ≤ length (printed text out)) × (printed_length text (length out) ≡ length (take (printed_length text (length out)) (printed text out)))
  unfolding printed printed_length
  printed_counts e = by (ltb (length out) 64) e
    where
      by : (t : Bool) → length (cond t out (text ++ drop (length text) out)) ≡ length out
          → (cond t 0 (length text) ≤ length (cond t out (text ++ drop (length text) out))) × (cond t 0 (length text) ≡ length (take (cond t 0 (length text)) (cond t out (text ++ drop (length text) out))))
      by true q = (omega arith, refl)
      by false q = (
        omega (arith, length-append text (drop (length text) out)),
        ap length (sym (take-append_seam text (drop (length text) out))),
      )
