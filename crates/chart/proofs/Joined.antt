-- Laws of joined: one piece more, its length, a piece of it, the same pieces; and how a loop that
-- lends the bytes of each piece joins them. joined_more, joined_length, joined_same, joined_piece;
-- put_next. Assumes nothing.
use Prim.Native.Nat.{ℕ, zero, suc, ◌+◌, ◌*◌, ◌≤◌, ◌<◌}
use mathlib.Core.Path.{◌≡◌, refl, ap, sym, ◌∙◌}
use mathlib.Core.List.{List, ◌++◌, append_assoc}
use mathlib.Core.Logic.{⊎_elim}
use native.Mathlib.Numerals.{add-one}
use native.Mathlib.Nat.{mul-suc, eq-or-lt_of_le}
use native.Mathlib.Omega.{arith}
use lib.ListN.{length, take, drop, length-append}
use lib.Seq.{take_at, drop_at}
use borrow.Rule.Slice.PartMut.{put_mid}
use Rattle.boxes.specs.Bytes.{part}
use Rattle.chart.specs.Chart.{joined}

-- Every piece below a number has one size.
abbrev pub Sized : (ℕ → List ℕ) → ℕ → ℕ → Type 0
Sized piece size count = (i : ℕ) → i < count → length (piece i) ≡ size

pub joined_more : (piece : ℕ → List ℕ) (count : ℕ) → joined piece (count + 1) ≡ joined piece count ++ piece count
unfolding joined
joined_more piece count = ap (joined piece) (add-one count)

pub joined_length : (piece : ℕ → List ℕ) (size count : ℕ) → Sized piece size count → length (joined piece count) ≡ size * count
unfolding joined
joined_length piece size zero h = omega arith
joined_length piece size (suc count) h =
    let rest = joined_length piece size count (λ i l. h i (omega arith)) in
    length-append (joined piece count) (piece count) ∙ omega (arith, rest, h count (omega arith), mul-suc size count)

pub joined_same : (g h : ℕ → List ℕ) (count : ℕ) → ((j : ℕ) → j < count → g j ≡ h j) → joined g count ≡ joined h count
unfolding joined
joined_same g h zero e = refl
joined_same g h (suc count) e =
    let rest = joined_same g h count (λ j l. e j (omega arith)) in
    let last = e count (omega arith) in
    cc

-- Piece j stands at size * j.
pub joined_piece : (piece : ℕ → List ℕ) (size count : ℕ) (r : List ℕ) (j : ℕ) → Sized piece size count → j < count → part (joined piece count ++ r) (size * j) size ≡ piece j
unfolding joined
joined_piece piece size zero r j h l = absurd (omega arith)
joined_piece piece size (suc count) r j h l =
    ap (λ (x : List ℕ). part x (size * j) size) (append_assoc (joined piece count) (piece count) r)
    ∙ ⊎_elim
    (λ e.
    let before : length (joined piece count) ≡ size * j = joined_length piece size count (λ i q. h i (omega arith)) ∙ ap (λ (x : ℕ). size * x) (sym e) in
    ap (take size) (drop_at (joined piece count) (piece count ++ r) (size * j) before) ∙ take_at (piece count) r size (h count (omega arith)) ∙ ap piece (sym e))
    (λ q. joined_piece piece size count (piece count ++ r) j (λ i p. h i (omega arith)) q)
    (eq-or-lt_of_le (below l))
  where
    below : j < suc count → j ≤ count
    below l = omega arith

-- The pieces below j stand at the front of b, and the bytes of piece j, lent from size * j on, came
-- back as the piece s.
pub put_next : (piece : ℕ → List ℕ) (size j k : ℕ) (b r s : List ℕ) → Sized piece size (j + 1) → k ≡ size → s ≡ piece j → b ≡ joined piece j ++ r
    → put_mid (size * j) k b s ≡ joined piece (j + 1) ++ drop size r
put_next piece size j k b r s h ek es e =
    let before : length (joined piece j) ≡ size * j = joined_length piece size j (λ i q. h i (omega arith)) in
    rw (e, ek, es, take_at (joined piece j) r (size * j) before, drop_at (joined piece j) r (size * j) before, joined_more piece j, append_assoc)
