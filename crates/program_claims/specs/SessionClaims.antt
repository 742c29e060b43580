-- The claims: however reads cut the input into pieces, and whatever room of 64 bytes or more the
-- output has, what is written is the transcript.
use Rattle.std.specs.Prelude.{ℕ, ◌^◌, ◌≤◌, ◌<◌, ◌≡◌, true, false, length, take}
use mathlib.Core.List.{List, [], ◌∷◌, ◌++◌, flatten}
use Rattle.runner.specs.State.{new_runner}
use Rattle.reply.specs.Reply.{loading}
use Rattle.transcript.specs.Lines.{lines_of, whole_lines}
use Rattle.transcript.specs.Transcript.{read_of_file, answers, chart_line, is_chart, holder, transcript}
use Rattle.transcript.specs.Session.{State, write, read, stop, turn, received, failed}

-- How far an input has come: it may go on, it has ended, or a read of it has failed.
pub data Input : Type 0 where
  going ended broken : Input

-- What a session with an accepted chart file has done, in an output of some room: the pieces read
-- so far, how far the input has come, where the session stands, and what is written. It does what
-- each turn wants. A piece that a read brings has a byte at least.
pub data Done (file : List ℕ) (room : ℕ) : List (List ℕ) → Input → State → List ℕ → Type 0 where
  start : Done file room [] going (record { count = 0; bytes = []; over = false }) (chart_line file)
  writes : {pieces : List (List ℕ)} {i : Input} {s s' : State} {sofar text : List ℕ}
      → Done file room pieces i s sofar → turn (holder file) room s ≡ write text s' → Done file room pieces i s' (sofar ++ text)
  reads : {pieces : List (List ℕ)} {i : Input} {s s' : State} {sofar : List ℕ} (b : ℕ) (piece : List ℕ)
      → Done file room pieces i s sofar → turn (holder file) room s ≡ read s' → Done file room (pieces ++ ((b ∷ piece) ∷ [])) i (received (b ∷ piece) s') sofar
  ends : {pieces : List (List ℕ)} {i : Input} {s s' : State} {sofar : List ℕ}
      → Done file room pieces i s sofar → turn (holder file) room s ≡ read s' → Done file room pieces ended (received [] s') sofar
  fails : {pieces : List (List ℕ)} {i : Input} {s s' : State} {sofar : List ℕ}
      → Done file room pieces i s sofar → turn (holder file) room s ≡ read s' → Done file room pieces broken (failed s') sofar

-- A line's number has 64 bits, so the claims are of fewer lines than 2 to the power 64.
abbrev pub Fits : List (List ℕ) → Type 0
Fits pieces = length (lines_of (flatten pieces)) < 2 ^ 64

-- A session that stops has written the transcript of all that was read, joined; or, where a read
-- failed, of the lines of it that ended.
abbrev pub WritesTranscript : Type 0
WritesTranscript =
    (file : List ℕ) (room : ℕ) (pieces : List (List ℕ)) (s : State) (sofar : List ℕ)
    → is_chart file ≡ true → 64 ≤ room → Fits pieces
    → turn (holder file) room s ≡ stop
    → (Done file room pieces ended s sofar → sofar ≡ transcript file (flatten pieces))
    × (Done file room pieces broken s sofar → sofar ≡ chart_line file ++ answers (holder file) 0 (whole_lines (flatten pieces)))

-- Before more is read, all lines that have ended are answered.
abbrev pub AnswersFirst : Type 0
AnswersFirst =
    (file : List ℕ) (room : ℕ) (pieces : List (List ℕ)) (i : Input) (s s' : State) (sofar : List ℕ)
    → 64 ≤ room → Fits pieces
    → Done file room pieces i s sofar → turn (holder file) room s ≡ read s' → sofar ≡ chart_line file ++ answers (holder file) 0 (whole_lines (flatten pieces))

-- What is written is a beginning of the transcript at all times, so also where a write fails.
abbrev pub BeginsTranscript : Type 0
BeginsTranscript =
    (file : List ℕ) (room : ℕ) (pieces : List (List ℕ)) (i : Input) (s : State) (sofar : List ℕ)
    → is_chart file ≡ true → 64 ≤ room → Fits pieces
    → Done file room pieces i s sofar → (rest : List ℕ) × (transcript file (flatten pieces) ≡ sofar ++ rest)

-- A turn that writes leaves fewer bytes at hand: no session writes for ever without a read.
abbrev pub WritesEnd : Type 0
WritesEnd =
    (file : List ℕ) (room : ℕ) (s s' : State) (text : List ℕ) → turn (holder file) room s ≡ write text s' → length s'.bytes < length s.bytes

-- "file length isn't 1,024, 1,536, 2,048 or 2,560": what is read of a chart file at most is enough
-- to tell that it is too long.
abbrev pub FirstBytes : Type 0
FirstBytes = (file : List ℕ) → loading (take read_of_file file) new_runner ≡ loading file new_runner
