-- What a portion of the lines of some bytes leaves: it and what is left are answered as all of
-- them, with what comes later. Assumes nothing.
use Rattle.std.proofs.Common.{◌≡◌, ℕ, suc, ◌-◌, ◌<◌, ◌≤◌, Bool, true, false, cond, ltb, List, [], ◌∷◌, ◌++◌, length, drop, sym, refl, ap, ◌∙◌, append_assoc, append-nil, arith, drop-drop, ltb-true}
use Rattle.runner.specs.declared.Runner.{Runner}
use Rattle.reply.specs.Reply.{respond}
use Rattle.transcript.specs.Lines.{lines_in}
use Rattle.transcript.specs.Session.{following, Portion, none, onto, portion, feed}
use Rattle.transcript.proofs.Lines.{Later, peel}
use Rattle.transcript.proofs.Alike.{counted}

pub goes_on_lem : (r : Runner) (room count : ℕ) (over e : Bool) (bytes more : List ℕ) (lines : List (List ℕ)) → Later over e more → lines_in over bytes ≡ lines
    → counted r count (lines_in e (bytes ++ more))
    ≡ (portion r room count lines).text ++ counted r (portion r room count lines).count (lines_in e (drop (portion r room count lines).taken bytes ++ more))
unfolding portion counted
goes_on_lem r room count over e bytes more [] f w = refl
goes_on_lem r room count over e bytes more (line ∷ lines) f w = by (ltb room 64) (goes_on_lem r (room - length text) (following count) over e left more lines f rest)
  where
    text : List ℕ
    text = respond r (following count) line

    left : List ℕ
    left = drop (suc (length line)) bytes

    tail_same : (a b : List (List ℕ)) (x : List ℕ) → x ∷ a ≡ x ∷ b → a ≡ b
    tail_same a b x q = cc

    rest : lines_in over left ≡ lines
    rest =
        tail_same (lines_in over left) lines line
        (ap (λ (x : List ℕ). line ∷ lines_in over x) (sym (append-nil left))
        ∙ sym (peel over over bytes [] line lines (λ q. (q, refl)) w)
        ∙ ap (lines_in over) (append-nil bytes)
        ∙ w)

    p : Portion
    p = portion r (room - length text) (following count) lines

    Goal : Portion → Type 0
    Goal q = counted r count (lines_in e (bytes ++ more)) ≡ q.text ++ counted r q.count (lines_in e (drop q.taken bytes ++ more))

    by : (t : Bool) → counted r (following count) (lines_in e (left ++ more)) ≡ p.text ++ counted r p.count (lines_in e (drop p.taken left ++ more))
        → Goal (cond t (none count) (onto line text p))
    by true h = refl
    by false h =
        ap (counted r count) (peel over e bytes more line lines f w)
        ∙ ap (λ (x : List ℕ). text ++ x) h
        ∙ sym (append_assoc text p.text _)
        ∙ ap (λ (x : List ℕ). text ++ p.text ++ counted r p.count (lines_in e (x ++ more))) (drop-drop p.taken (suc (length line)) bytes)

-- A portion that takes nothing is of no line, where there is room.
pub takes : (r : Runner) (room count : ℕ) (lines : List (List ℕ)) → 64 ≤ room → (portion r room count lines).taken ≡ 0 → lines ≡ []
unfolding portion
takes r room count [] l e = refl
takes r room count (line ∷ lines) l e = by (ltb room 64) refl e
  where
    by : (t : Bool) → ltb room 64 ≡ t
        → (let text = respond r (following count) line in (cond t (none count) (onto line text (portion r (room - length text) (following count) lines))).taken ≡ 0)
        → line ∷ lines ≡ []
    by true q z = absurd (omega (arith, ltb-true room 64 q))
    by false q z = absurd (omega arith)

-- A portion takes bytes that are there.
pub some_taken : (r : Runner) (room count : ℕ) (over : Bool) (bytes : List ℕ) → 0 < (feed r room count over bytes).taken → 0 < length bytes
unfolding lines_in portion
some_taken r room count over [] l = absurd (omega arith)
some_taken r room count over (b ∷ bytes) l = omega arith
