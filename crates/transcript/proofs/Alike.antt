-- Two unfinished lines whose first 256 bytes are the same are answered alike, whatever follows: so
-- that is enough to keep. `counted` are answers as the program counts lines. Assumes nothing.
use Rattle.std.proofs.Common.{◌≡◌, ℕ, zero, suc, ◌+◌, ◌%◌, ◌^◌, ◌<◌, Bool, true, false, cond, eqb, List, [], ◌∷◌, ◌++◌, length, take, sym, refl, ap, ◌∙◌, arith, length-take, take-take}
use Rattle.lists.proofs.Parts.{take_again}
use Rattle.line.specs.Parsing.{parse}
use Rattle.line.proofs.Parsed.{parse_first}
use Rattle.runner.specs.declared.Runner.{Runner}
use Rattle.reply.specs.Reply.{respond}
use Rattle.transcript.specs.Lines.{prefixed, lines_in, whole_lines}
use Rattle.transcript.specs.Transcript.{answers}
use Rattle.transcript.specs.Session.{following, clipped}
use Rattle.transcript.proofs.Lines.{last_line}

unfoldable pub counted : Runner → ℕ → List (List ℕ) → List ℕ
counted r count [] = []
counted r count (line ∷ lines) = respond r (following count) line ++ counted r (following count) lines

-- They are the answers where the count does not wrap.
pub counted_is : (r : Runner) (count : ℕ) (lines : List (List ℕ)) → count + length lines < 2 ^ 64 → counted r count lines ≡ answers r count lines
unfolding counted answers
counted_is r count [] l = refl
counted_is r count (line ∷ lines) l =
    let small : (count + 1) % 2 ^ 64 ≡ count + 1 = omega arith in
    rw small (ap (λ (x : List ℕ). respond r (count + 1) line ++ x) (counted_is r (count + 1) lines (omega arith)))

-- An unfinished line before the lines that follow.
attached : Bool → List ℕ → List (List ℕ) → List (List ℕ)
attached e u [] = last_line e u
attached e u (line ∷ lines) = (u ++ line) ∷ lines

attached_none : (e : Bool) (lines : List (List ℕ)) → lines ≡ attached e [] lines
unfolding attached last_line
attached_none e [] = refl
attached_none e (line ∷ lines) = refl

attached_prefixed : (e : Bool) (b : ℕ) (u : List ℕ) (lines : List (List ℕ)) → prefixed e b (attached e u lines) ≡ attached e (b ∷ u) lines
unfolding attached prefixed last_line
attached_prefixed true b [] [] = refl
attached_prefixed true b (c ∷ u) [] = refl
attached_prefixed false b [] [] = refl
attached_prefixed false b (c ∷ u) [] = refl
attached_prefixed true b u (line ∷ lines) = refl
attached_prefixed false b u (line ∷ lines) = refl

none_prefixed : (b : ℕ) (lines : List (List ℕ)) → prefixed false b lines ≡ [] → lines ≡ []
unfolding prefixed
none_prefixed b [] q = refl
none_prefixed b (line ∷ lines) q = cc

lines_attached : (e : Bool) (u more : List ℕ) → whole_lines u ≡ [] → lines_in e (u ++ more) ≡ attached e u (lines_in e more)
unfolding lines_in
lines_attached e [] more w = attached_none e (lines_in e more)
lines_attached e (b ∷ u) more w = by (eqb b 10) w (lines_attached e u more)
  where
    by : (t : Bool) → cond t ([] ∷ whole_lines u) (prefixed false b (whole_lines u)) ≡ [] → (whole_lines u ≡ [] → lines_in e (u ++ more) ≡ attached e u (lines_in e more))
        → cond t ([] ∷ lines_in e (u ++ more)) (prefixed e b (lines_in e (u ++ more))) ≡ attached e (b ∷ u) (lines_in e more)
    by true q h = cc
    by false q h = ap (prefixed e b) (h (none_prefixed b (whole_lines u) q)) ∙ attached_prefixed e b u (lines_in e more)

-- The first bytes of a line that has not ended have no newline.
first_bytes : (n : ℕ) (u : List ℕ) → whole_lines u ≡ [] → whole_lines (take n u) ≡ []
unfolding lines_in prefixed
first_bytes zero u w = refl
first_bytes (suc n) [] w = refl
first_bytes (suc n) (b ∷ u) w = by (eqb b 10) w (first_bytes n u)
  where
    by : (t : Bool) → cond t ([] ∷ whole_lines u) (prefixed false b (whole_lines u)) ≡ [] → (whole_lines u ≡ [] → whole_lines (take n u) ≡ [])
        → cond t ([] ∷ whole_lines (take n u)) (prefixed false b (whole_lines (take n u))) ≡ []
    by true q h = cc
    by false q h = ap (prefixed false b) (h (none_prefixed b (whole_lines u) q))

-- A line is read by its first 256 bytes.
module _ (r : Runner) (u v : List ℕ) (wu : whole_lines u ≡ []) (wv : whole_lines v ≡ []) (same : take 256 u ≡ take 256 v) where
  responds : (number : ℕ) (x y : List ℕ) → take 256 x ≡ take 256 y → respond r number x ≡ respond r number y
  unfolding respond
  responds number x y e = let read : parse x ≡ parse y = sym (parse_first x) ∙ ap parse e ∙ parse_first y in rw read refl

  longer : (line : List ℕ) → take 256 (u ++ line) ≡ take 256 (v ++ line)
  longer line = sym (take_again 256 u line) ∙ ap (λ (x : List ℕ). take 256 (x ++ line)) same ∙ take_again 256 v line

  counted_last : (count : ℕ) (e : Bool) (x y : List ℕ) → take 256 x ≡ take 256 y → counted r count (last_line e x) ≡ counted r count (last_line e y)
  unfolding counted last_line
  counted_last count e [] [] q = refl
  counted_last count e [] (c ∷ y) q = absurd (omega (arith, ap length q, length-take 256 (c ∷ y)))
  counted_last count e (b ∷ x) [] q = absurd (omega (arith, ap length q, length-take 256 (b ∷ x)))
  counted_last count true (b ∷ x) (c ∷ y) q = ap (λ (text : List ℕ). text ++ []) (responds (following count) (b ∷ x) (c ∷ y) q)
  counted_last count false (b ∷ x) (c ∷ y) q = refl

  counted_attached : (count : ℕ) (e : Bool) (lines : List (List ℕ)) → counted r count (attached e u lines) ≡ counted r count (attached e v lines)
  unfolding attached counted
  counted_attached count e [] = counted_last count e u v same
  counted_attached count e (line ∷ lines) = ap (λ (text : List ℕ). text ++ counted r (following count) lines) (responds (following count) (u ++ line) (v ++ line) (longer line))

  pub counted_alike : (count : ℕ) (e : Bool) (more : List ℕ) → counted r count (lines_in e (u ++ more)) ≡ counted r count (lines_in e (v ++ more))
  counted_alike count e more =
      ap (counted r count) (lines_attached e u more wu) ∙ counted_attached count e (lines_in e more) ∙ ap (counted r count) (sym (lines_attached e v more wv))

-- What is kept is answered as the whole.
pub counted_kept : (r : Runner) (count : ℕ) (e : Bool) (bytes more : List ℕ) → whole_lines bytes ≡ []
    → counted r count (lines_in e (clipped bytes ++ more)) ≡ counted r count (lines_in e (bytes ++ more))
counted_kept r count e bytes more w =
    counted_alike r (clipped bytes) bytes (first_bytes 256 bytes w) w (take-take 256 256 bytes (omega arith)) count e more
