-- Laws of the lines of some bytes, for lines that may lack their newline and for those that may
-- not: the first line, by the place of the first newline (first_line, last_line_lem) and by what is
-- known of the lines (peel), with bytes that come later. Assumes nothing.
use Rattle.std.proofs.Common.{◌≡◌, ℕ, suc, ◌+◌, ◌-◌, ◌<◌, ◌≤◌, ◌⊎◌, inl, inr, ltb, Option, Some, None, not, Bool, true, false, cond, eqb, List, [], ◌∷◌, ◌++◌, length, take, drop, sym, refl, ap, ◌∙◌, arith, take_all, length-drop, one-add}
use borrow.Author.Tests.{eqb-true, ltb-true, ltb-false}
use Rattle.std.proofs.lemmas.Bool.{false_from_ne_true, lt-ltb, le-ltb}
use Rattle.std.proofs.lemmas.List.Sums.{position_or_len_is}
use Rattle.memchr.specs.Find.{IsFirstByte, is_byte}
use Rattle.std.specs.List.{position_or_len, position}
use Rattle.transcript.specs.Lines.{prefixed, lines_in, lines_of, whole_lines}

-- The last line, which lacks its newline, where there is a byte of it.
unfoldable pub last_line : Bool → List ℕ → List (List ℕ)
last_line lacking [] = []
last_line true (b ∷ bytes) = (b ∷ bytes) ∷ []
last_line false (b ∷ bytes) = []

prefixed_more : (e : Bool) (b : ℕ) (line : List ℕ) (lines : List (List ℕ)) → prefixed e b (line ∷ lines) ≡ (b ∷ line) ∷ lines
unfolding prefixed
prefixed_more true b line lines = refl
prefixed_more false b line lines = refl

prefixed_last : (e : Bool) (b : ℕ) (bytes : List ℕ) → prefixed e b (last_line e bytes) ≡ last_line e (b ∷ bytes)
unfolding prefixed last_line
prefixed_last true b [] = refl
prefixed_last true b (c ∷ bytes) = refl
prefixed_last false b [] = refl
prefixed_last false b (c ∷ bytes) = refl

-- The place of the first newline of some bytes, and their number where there is none.
abbrev pub newline_at : List ℕ → ℕ
newline_at bytes = position_or_len (λ (b : ℕ). eqb b 10) bytes

-- The line before the first newline.
first_line : (e : Bool) (bytes : List ℕ) → newline_at bytes < length bytes
    → lines_in e bytes ≡ take (newline_at bytes) bytes ∷ lines_in e (drop (suc (newline_at bytes)) bytes)
unfolding lines_in
first_line e [] l = absurd (omega arith)
first_line e (b ∷ bytes) l = by (eqb b 10) l (first_line e bytes)
  where
    i : ℕ
    i = newline_at bytes

    by : (t : Bool) → cond (not t) (1 + i) 0 < suc (length bytes)
        → (i < length bytes → lines_in e bytes ≡ take i bytes ∷ lines_in e (drop (suc i) bytes))
        → cond t ([] ∷ lines_in e bytes) (prefixed e b (lines_in e bytes)) ≡ take (cond (not t) (1 + i) 0) (b ∷ bytes) ∷ lines_in e (drop (suc (cond (not t) (1 + i) 0)) (b ∷ bytes))
    by true l h = refl
    by false l h = ap (prefixed e b) (h (omega arith)) ∙ prefixed_more e b (take i bytes) (lines_in e (drop (suc i) bytes)) ∙ rw (one-add i) refl

-- Bytes without a newline.
all_last : (e : Bool) (bytes : List ℕ) → length bytes ≤ newline_at bytes → lines_in e bytes ≡ last_line e bytes
unfolding lines_in last_line
all_last e [] l = refl
all_last e (b ∷ bytes) l = by (eqb b 10) l (all_last e bytes)
  where
    by : (t : Bool) → suc (length bytes) ≤ cond (not t) (1 + newline_at bytes) 0 → (length bytes ≤ newline_at bytes → lines_in e bytes ≡ last_line e bytes)
        → cond t ([] ∷ lines_in e bytes) (prefixed e b (lines_in e bytes)) ≡ last_line e (b ∷ bytes)
    by true l h = absurd (omega arith)
    by false l h = ap (prefixed e b) (h (omega arith)) ∙ prefixed_last e b bytes

-- What a search for a newline says of the lines.
pub lines_found : (e : Bool) (bytes : List ℕ) (i : ℕ) → position (λ (b : ℕ). eqb b 10) bytes ≡ Some i
    → lines_in e bytes ≡ take i bytes ∷ lines_in e (take (length bytes - (i + 1)) (drop (i + 1) bytes))
lines_found e bytes i q = by (ltb (newline_at bytes) (length bytes)) refl q
  where
    by : (t : Bool) → ltb (newline_at bytes) (length bytes) ≡ t → cond t (Some (newline_at bytes)) None ≡ Some i
        → lines_in e bytes ≡ take i bytes ∷ lines_in e (take (length bytes - (i + 1)) (drop (i + 1) bytes))
    by true l z =
        let same : newline_at bytes ≡ i = cc in
        let far : suc (newline_at bytes) ≡ i + 1 = omega arith in
        first_line e bytes (ltb-true (newline_at bytes) (length bytes) l)
        ∙ rw (far, same, take_all (length bytes - (i + 1)) (drop (i + 1) bytes) (omega (arith, length-drop (i + 1) bytes))) refl
    by false l z = cc

pub lines_not_found : (e : Bool) (bytes : List ℕ) → position (λ (b : ℕ). eqb b 10) bytes ≡ None → lines_in e bytes ≡ last_line e bytes
lines_not_found e bytes q = by (ltb (newline_at bytes) (length bytes)) refl q
  where
    by : (t : Bool) → ltb (newline_at bytes) (length bytes) ≡ t → cond t (Some (newline_at bytes)) None ≡ None → lines_in e bytes ≡ last_line e bytes
    by true l z = cc
    by false l z = all_last e bytes (ltb-false (newline_at bytes) (length bytes) l)

pub some_last : (bytes : List ℕ) → eqb (length bytes) 0 ≡ false → last_line true bytes ≡ bytes ∷ []
unfolding last_line
some_last [] z = cc
some_last (b ∷ bytes) z = refl

pub no_last : (e : Bool) (bytes : List ℕ) → (e ≡ false) ⊎ (eqb (length bytes) 0 ≡ true) → last_line e bytes ≡ []
unfolding last_line
no_last e [] w = refl
no_last e (b ∷ bytes) (inl z) = rw z refl
no_last e (b ∷ bytes) (inr z) = absurd (omega (arith, eqb-true (length (b ∷ bytes)) 0 z))

-- What may come later: nothing, where the input is over.
abbrev pub Later : (over e : Bool) (more : List ℕ) → Type 0
Later over e more = over ≡ true → (e ≡ true) × (more ≡ [])

no_bytes : (bytes : List ℕ) → lines_in true bytes ≡ [] → bytes ≡ []
unfolding lines_in prefixed
no_bytes [] e = refl
no_bytes (b ∷ bytes) e = by (eqb b 10) (lines_in true bytes) e
  where
    by : (t : Bool) (lines : List (List ℕ)) → cond t ([] ∷ lines) (prefixed true b lines) ≡ [] → b ∷ bytes ≡ []
    by true lines q = cc
    by false [] q = cc
    by false (line ∷ lines) q = cc

-- The first line of some bytes is that of them and of what comes later, and leaves the bytes after
-- it.
pub peel : (over e : Bool) (bytes more line : List ℕ) (lines : List (List ℕ)) → Later over e more → lines_in over bytes ≡ line ∷ lines
    → lines_in e (bytes ++ more) ≡ line ∷ lines_in e (drop (suc (length line)) bytes ++ more)
unfolding lines_in prefixed
peel over e [] more line lines f w = cc
peel over e (b ∷ bytes) more line lines f w = by (eqb b 10) w (λ l ls z. peel over e bytes more l ls f z)
  where
    Goal : Bool → Type 0
    Goal t =
        cond t ([] ∷ lines_in e (bytes ++ more)) (prefixed e b (lines_in e (bytes ++ more))) ≡ line ∷ lines_in e (drop (length line) bytes ++ more)

    goes : (l : List ℕ) → b ∷ l ≡ line → lines_in e (bytes ++ more) ≡ l ∷ lines_in e (drop (suc (length l)) bytes ++ more) → Goal false
    goes l same h =
        ap (prefixed e b) h
        ∙ prefixed_more e b l (lines_in e (drop (suc (length l)) bytes ++ more))
        ∙ ap (λ (x : List ℕ). x ∷ lines_in e (drop (length x) bytes ++ more)) same

    last : (o : Bool) → over ≡ o → lines_in over bytes ≡ [] → prefixed o b [] ≡ line ∷ lines → Goal false
    last true o z q =
        let z' : lines_in true bytes ≡ [] = ap (λ (x : Bool). lines_in x bytes) (sym o) ∙ z in
        let same : line ≡ b ∷ [] = cc in
        rw (no_bytes bytes z', (f o).1, (f o).0, same) refl
    last false o z q = cc

    other : (ls : List (List ℕ)) → lines_in over bytes ≡ ls → prefixed over b ls ≡ line ∷ lines
        → ((l : List ℕ) (more-lines : List (List ℕ)) → lines_in over bytes ≡ l ∷ more-lines → lines_in e (bytes ++ more) ≡ l ∷ lines_in e (drop (suc (length l)) bytes ++ more))
        → Goal false
    other [] z q h = last over refl z q
    other (l ∷ ls) z q h =
        let w : (b ∷ l) ∷ ls ≡ line ∷ lines = sym (prefixed_more over b l ls) ∙ q in
        let same : b ∷ l ≡ line = cc in
        goes l same (h l ls z)

    by : (t : Bool) → cond t ([] ∷ lines_in over bytes) (prefixed over b (lines_in over bytes)) ≡ line ∷ lines
        → ((l : List ℕ) (more-lines : List (List ℕ)) → lines_in over bytes ≡ l ∷ more-lines → lines_in e (bytes ++ more) ≡ l ∷ lines_in e (drop (suc (length l)) bytes ++ more))
        → Goal t
    by true q h =
        let same : [] ≡ line = cc in
        ap (λ (x : List ℕ). x ∷ lines_in e (drop (length x) bytes ++ more)) same
    by false q h = other (lines_in over bytes) refl q h

-- There are no more lines that end than lines.
pub fewer_whole : (bytes : List ℕ) → length (whole_lines bytes) ≤ length (lines_of bytes)
unfolding lines_in prefixed
fewer_whole [] = omega arith
fewer_whole (b ∷ bytes) = by (eqb b 10) (whole_lines bytes) (lines_of bytes) (fewer_whole bytes)
  where
    by : (t : Bool) (whole all : List (List ℕ)) → length whole ≤ length all
        → length (cond t ([] ∷ whole) (prefixed false b whole)) ≤ length (cond t ([] ∷ all) (prefixed true b all))
    by true whole all l = omega arith
    by false [] all l = omega arith
    by false (x ∷ whole) [] l = absurd (omega arith)
    by false (x ∷ whole) (y ∷ all) l = omega arith

-- The first newline, as `memchr` finds it.
pub found_place : (bytes : List ℕ) (r : Option ℕ) → IsFirstByte (is_byte 10) bytes r → position (λ (b : ℕ). eqb b 10) bytes ≡ r
found_place bytes None h =
    let none : newline_at bytes ≡ length bytes
    = position_or_len_is (λ (b : ℕ). eqb b 10) bytes (length bytes) 0 (omega arith) (λ k l. false_from_ne_true _ (h k (omega arith) l)) (λ l. absurd (omega arith)) in
    rw (none, le-ltb (length bytes) (length bytes) (omega arith)) refl
found_place bytes (Some k) h =
    let one : newline_at bytes ≡ k
    = position_or_len_is (λ (b : ℕ). eqb b 10) bytes k 0 (omega (arith, h.0.high)) (λ i l. false_from_ne_true _ (h.0.before i (omega arith) l)) (λ l. h.1) in
    rw (one, lt-ltb k (length bytes) h.0.high) refl
