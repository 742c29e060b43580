-- The claims of a session, by induction on what it has done. Kept at every turn: what is written,
-- and the answers to the bytes at hand with whatever comes later, are the answers to all that was
-- read with whatever comes later (Stands). Assumes nothing.
use Prim.Native.Nat.{ℕ, ◌^◌, ◌≤◌, ◌<◌}
use mathlib.Core.Path.{◌≡◌, refl, ap, sym, ◌∙◌, subst}
use mathlib.Core.List.{List, [], ◌∷◌, ◌++◌, append_assoc, append-nil, flatten}
use mathlib.Core.Bool.{Bool, true, false, cond, false≢true}
use native.Mathlib.Omega.{arith}
use lib.Dec.{ltb}
use lib.ListN.{length, drop, length-drop}
use borrow.Author.Tests.{ltb-true, ltb-false}
use Rattle.runner.specs.declared.Runner.{Runner}
use Rattle.transcript.specs.Lines.{lines_in, lines_of, whole_lines}
use Rattle.transcript.specs.Transcript.{answers, chart_line, is_chart, holder, transcript}
use Rattle.transcript.specs.Session.{Portion, portion, feed, State, Turn, write, read, stop, clipped, turn, received}
use Rattle.program_claims.specs.SessionClaims.{Input, going, ended, broken, Done, start, writes, reads, ends, fails, Fits, WritesTranscript, AnswersFirst, BeginsTranscript, WritesEnd}
use Rattle.transcript.proofs.Lines.{Later, fewer_whole}
use Rattle.transcript.proofs.Alike.{counted, counted_is, counted_kept}
use Rattle.transcript.proofs.Portions.{goes_on_lem, takes, some_taken}

-- What a turn that wants something says.
module _ (r : Runner) (room : ℕ) (s : State) where
  p : Portion
  p = feed r room s.count s.over s.bytes

  abbrev went : State
  went = record { count = p.count; bytes = drop p.taken s.bytes; over = s.over }

  abbrev waits : State
  waits = record { count = s.count; bytes = clipped s.bytes; over = false }

  chosen : Bool → Bool → Turn
  chosen t o = cond t (write p.text went) (cond o stop (read waits))

  wrote : (text : List ℕ) (s' : State) → turn r room s ≡ write text s' → (0 < p.taken) × (text ≡ p.text) × (s' ≡ went)
  unfolding turn p chosen
  wrote text s' e = by (ltb 0 p.taken) refl s.over e
    where
      by : (t : Bool) → ltb 0 p.taken ≡ t → (o : Bool) → chosen t o ≡ write text s' → (0 < p.taken) × (text ≡ p.text) × (s' ≡ went)
      by true q o z = (ltb-true 0 p.taken q, cc, cc)
      by false q true z = cc
      by false q false z = cc

  waited : (s' : State) → turn r room s ≡ read s' → (p.taken ≡ 0) × (s.over ≡ false) × (s' ≡ waits)
  unfolding turn p chosen
  waited s' e = by (ltb 0 p.taken) refl s.over refl e
    where
      by : (t : Bool) → ltb 0 p.taken ≡ t → (o : Bool) → s.over ≡ o → chosen t o ≡ read s' → (p.taken ≡ 0) × (s.over ≡ false) × (s' ≡ waits)
      by true q o w z = cc
      by false q true w z = cc
      by false q false w z = (omega (arith, ltb-false 0 p.taken q), w, cc)

  stopped : turn r room s ≡ stop → (p.taken ≡ 0) × (s.over ≡ true)
  unfolding turn p chosen
  stopped e = by (ltb 0 p.taken) refl s.over refl e
    where
      by : (t : Bool) → ltb 0 p.taken ≡ t → (o : Bool) → s.over ≡ o → chosen t o ≡ stop → (p.taken ≡ 0) × (s.over ≡ true)
      by true q o w z = cc
      by false q true w z = (omega (arith, ltb-false 0 p.taken q), w)
      by false q false w z = cc

  -- Nothing was taken, so nothing is left to answer.
  idle : 64 ≤ room → p.taken ≡ 0 → lines_in s.over s.bytes ≡ []
  unfolding p
  idle l e = takes r room s.count (lines_in s.over s.bytes) l e

module _ (file : List ℕ) where
  abbrev r : Runner
  r = holder file

  -- What is written so far, and what would be answered later.
  abbrev Stands : List (List ℕ) → State → List ℕ → Type 0
  Stands pieces s sofar =
      (e : Bool) (more : List ℕ) → Later s.over e more
      → chart_line file ++ counted r 0 (lines_in e (flatten pieces ++ more)) ≡ sofar ++ counted r s.count (lines_in e (s.bytes ++ more))

  pub record Broken (pieces : List (List ℕ)) (s : State) (sofar : List ℕ) : Type 0 where
    pub over : s.over ≡ true
    pub nothing : s.bytes ≡ []
    pub written : sofar ≡ chart_line file ++ counted r 0 (whole_lines (flatten pieces))
    pub rest : List ℕ
    pub begins : chart_line file ++ counted r 0 (lines_of (flatten pieces)) ≡ sofar ++ rest

  abbrev Holds : List (List ℕ) → Input → State → List ℕ → Type 0
  Holds pieces going s sofar = (s.over ≡ false) × Stands pieces s sofar
  Holds pieces ended s sofar = (s.over ≡ true) × Stands pieces s sofar
  Holds pieces broken s sofar = Broken pieces s sofar

  flatten_one : (pieces : List (List ℕ)) (piece : List ℕ) → flatten (pieces ++ (piece ∷ [])) ≡ flatten pieces ++ piece
  unfolding flatten
  flatten_one [] piece = append-nil piece
  flatten_one (x ∷ pieces) piece = ap (λ (y : List ℕ). x ++ y) (flatten_one pieces piece) ∙ sym (append_assoc x (flatten pieces) piece)

  module _ (room : ℕ) (l : 64 ≤ room) where
    stands_wrote : (pieces : List (List ℕ)) (s : State) (sofar : List ℕ) → Stands pieces s sofar → Stands pieces (went r room s) (sofar ++ (p r room s).text)
    unfolding p
    stands_wrote pieces s sofar h e more f =
        h e more f
        ∙ ap (λ (x : List ℕ). sofar ++ x) (goes_on_lem r room s.count s.over e s.bytes more (lines_in s.over s.bytes) f refl)
        ∙ sym (append_assoc sofar (p r room s).text _)

    -- Where more is wanted, what is kept stands for the bytes at hand.
    stands_kept : (pieces : List (List ℕ)) (s : State) (sofar : List ℕ) → s.over ≡ false → (p r room s).taken ≡ 0 → Stands pieces s sofar
        → (e : Bool) (more : List ℕ) → chart_line file ++ counted r 0 (lines_in e (flatten pieces ++ more)) ≡ sofar ++ counted r s.count (lines_in e (clipped s.bytes ++ more))
    stands_kept pieces s sofar o z h e more =
        let none : whole_lines s.bytes ≡ [] = ap (λ (x : Bool). lines_in x s.bytes) (sym o) ∙ idle r room s l z in
        h e more (λ q. absurd (false≢true (sym o ∙ q)))
        ∙ ap (λ (x : List ℕ). sofar ++ x) (sym (counted_kept r s.count e s.bytes more none))

    holds_wrote : (i : Input) (pieces : List (List ℕ)) (s : State) (sofar : List ℕ) → 0 < (p r room s).taken → Holds pieces i s sofar
        → Holds pieces i (went r room s) (sofar ++ (p r room s).text)
    unfolding p portion lines_in
    holds_wrote going pieces s sofar t h = (h.0, stands_wrote pieces s sofar h.1)
    holds_wrote ended pieces s sofar t h = (h.0, stands_wrote pieces s sofar h.1)
    holds_wrote broken pieces s sofar t h =
        let none : (p r room s).taken ≡ 0 = ap (λ (x : List ℕ). (portion r room s.count (lines_in s.over x)).taken) h.nothing in
        absurd (omega arith)

    -- Only an input that goes on is read.
    on : (i : Input) (pieces : List (List ℕ)) (s : State) (sofar : List ℕ) → s.over ≡ false → Holds pieces i s sofar → Stands pieces s sofar
    on going pieces s sofar o h = h.1
    on ended pieces s sofar o h = absurd (false≢true (sym o ∙ h.0))
    on broken pieces s sofar o h = absurd (false≢true (sym o ∙ h.over))

    holds_read : (i : Input) (pieces : List (List ℕ)) (s : State) (sofar piece : List ℕ) → s.over ≡ false → (p r room s).taken ≡ 0 → Holds pieces i s sofar
        → Holds (pieces ++ (piece ∷ [])) i (record { count = s.count; bytes = clipped s.bytes ++ piece; over = false }) sofar
    holds_read going pieces s sofar piece o z h = (
      refl,
      λ e more f.
          ap (λ (x : List ℕ). chart_line file ++ counted r 0 (lines_in e (x ++ more))) (flatten_one pieces piece)
          ∙ ap (λ (x : List ℕ). chart_line file ++ counted r 0 (lines_in e x)) (append_assoc (flatten pieces) piece more)
          ∙ stands_kept pieces s sofar o z h.1 e (piece ++ more)
          ∙ ap (λ (x : List ℕ). sofar ++ counted r s.count (lines_in e x)) (sym (append_assoc (clipped s.bytes) piece more)),
    )
    holds_read ended pieces s sofar piece o z h = absurd (false≢true (sym o ∙ h.0))
    holds_read broken pieces s sofar piece o z h = absurd (false≢true (sym o ∙ h.over))

    -- All lines that have ended are answered where more is wanted.
    answered : (pieces : List (List ℕ)) (s : State) (sofar : List ℕ) → s.over ≡ false → (p r room s).taken ≡ 0 → Stands pieces s sofar
        → sofar ≡ chart_line file ++ counted r 0 (whole_lines (flatten pieces))
    unfolding counted
    answered pieces s sofar o z h =
        let none : whole_lines s.bytes ≡ [] = ap (λ (x : Bool). lines_in x s.bytes) (sym o) ∙ idle r room s l z in
        sym
        (ap (λ (x : List ℕ). chart_line file ++ counted r 0 (whole_lines x)) (sym (append-nil (flatten pieces)))
        ∙ h false [] (λ q. absurd (false≢true (sym o ∙ q)))
        ∙ ap (λ (x : List ℕ). sofar ++ counted r s.count (whole_lines x)) (append-nil s.bytes)
        ∙ ap (λ (x : List (List ℕ)). sofar ++ counted r s.count x) none
        ∙ append-nil sofar)

    all : (pieces : List (List ℕ)) (s : State) (sofar : List ℕ) → Stands pieces s sofar
        → chart_line file ++ counted r 0 (lines_of (flatten pieces)) ≡ sofar ++ counted r s.count (lines_of s.bytes)
    all pieces s sofar h =
        ap (λ (x : List ℕ). chart_line file ++ counted r 0 (lines_of x)) (sym (append-nil (flatten pieces)))
        ∙ h true [] (λ q. (refl, refl))
        ∙ ap (λ (x : List ℕ). sofar ++ counted r s.count (lines_of x)) (append-nil s.bytes)

    holds : {pieces : List (List ℕ)} {i : Input} {s : State} {sofar : List ℕ} → Done file room pieces i s sofar → Holds pieces i s sofar
    unfolding flatten received
    holds start = (refl, λ e more f. refl)
    holds (writes {pieces} {i} {s} {s'} {sofar} {text} d q) =
        let w = wrote r room s text s' q in
        subst (λ (x : State). Holds pieces i x (sofar ++ text)) (sym w.2)
        (subst (λ (x : List ℕ). Holds pieces i (went r room s) (sofar ++ x)) (sym w.1) (holds_wrote i pieces s sofar w.0 (holds d)))
    holds (reads {pieces} {i} {s} {s'} {sofar} b piece d q) =
        let w = waited r room s s' q in
        subst (λ (x : State). Holds (pieces ++ ((b ∷ piece) ∷ [])) i (received (b ∷ piece) x) sofar) (sym w.2)
        (holds_read i pieces s sofar (b ∷ piece) w.1 w.0 (holds d))
    holds (ends {pieces} {i} {s} {s'} {sofar} d q) =
        let w = waited r room s s' q in
        subst (λ (x : State). Holds pieces ended (received [] x) sofar) (sym w.2)
        (refl, λ e more f. stands_kept pieces s sofar w.1 w.0 (on i pieces s sofar w.1 (holds d)) e more)
    holds (fails {pieces} {i} {s} {s'} {sofar} d q) =
        let w = waited r room s s' q in
        let h = on i pieces s sofar w.1 (holds d) in
        record {
          over = refl;
          nothing = refl;
          written = answered pieces s sofar w.1 w.0 h;
          rest = counted r s.count (lines_of s.bytes);
          begins = all pieces s sofar h;
        }

-- The answers as the transcript numbers them.
numbered : (r : Runner) (lines : List (List ℕ)) → length lines < 2 ^ 64 → counted r 0 lines ≡ answers r 0 lines
numbered r lines l = counted_is r 0 lines (omega arith)

whole_transcript : (file : List ℕ) (pieces : List (List ℕ)) → is_chart file ≡ true → Fits pieces
    → chart_line file ++ counted (holder file) 0 (lines_of (flatten pieces)) ≡ transcript file (flatten pieces)
unfolding transcript
whole_transcript file pieces c f = rw c (ap (λ (x : List ℕ). chart_line file ++ x) (numbered (holder file) (lines_of (flatten pieces)) f))

whole_answers : (file : List ℕ) (pieces : List (List ℕ)) → Fits pieces
    → chart_line file ++ counted (holder file) 0 (whole_lines (flatten pieces)) ≡ chart_line file ++ answers (holder file) 0 (whole_lines (flatten pieces))
whole_answers file pieces f =
    ap (λ (x : List ℕ). chart_line file ++ x) (numbered (holder file) (whole_lines (flatten pieces)) (omega (arith, fewer_whole (flatten pieces))))

pub writes_transcript : WritesTranscript
unfolding counted
writes_transcript file room pieces s sofar c l f q =
    let r = holder file in
    let w = stopped r room s q in (
      λ d.
          let h = holds file room l d in
          let none : lines_of s.bytes ≡ [] = ap (λ (x : Bool). lines_in x s.bytes) (sym w.1) ∙ idle r room s l w.0 in
          sym (append-nil sofar)
          ∙ ap (λ (x : List (List ℕ)). sofar ++ counted r s.count x) (sym none)
          ∙ sym (all file room l pieces s sofar h.1)
          ∙ whole_transcript file pieces c f,
      λ d. (holds file room l d).written ∙ whole_answers file pieces f,
    )

pub answers_first : AnswersFirst
answers_first file room pieces i s s' sofar l f d q =
    let w = waited (holder file) room s s' q in
    answered file room l pieces s sofar w.1 w.0 (on file room l i pieces s sofar w.1 (holds file room l d)) ∙ whole_answers file pieces f

pub begins_transcript : BeginsTranscript
begins_transcript file room pieces i s sofar c l f d = by i (holds file room l d)
  where
    by : (i : Input) → Holds file pieces i s sofar → (rest : List ℕ) × (transcript file (flatten pieces) ≡ sofar ++ rest)
    by going h = (_, sym (whole_transcript file pieces c f) ∙ all file room l pieces s sofar h.1)
    by ended h = (_, sym (whole_transcript file pieces c f) ∙ all file room l pieces s sofar h.1)
    by broken h = (h.rest, sym (whole_transcript file pieces c f) ∙ h.begins)

pub writes_end : WritesEnd
unfolding p
writes_end file room s s' text q =
    let w = wrote (holder file) room s text s' q in
    let some = some_taken (holder file) room s.count s.over s.bytes w.0 in
    rw w.2 (omega (arith, w.0, length-drop (p (holder file) room s).taken s.bytes))
