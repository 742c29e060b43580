-- The run program between its reads and writes. A session goes by turns: each wants a text written,
-- more input read, or to stop.
use Rattle.std.specs.Prelude.{◌≡◌, ℕ, suc, ◌+◌, ◌-◌, ◌%◌, ◌^◌, ◌≤◌, min, Bool, true, false, cond, List, [], ◌∷◌, ◌++◌, length, take, drop, nat_lt, Option, Some, None, ⊤}
use Rattle.io.specs.Counts.{IsPrefixLen}
use Rattle.runner.specs.declared.Runner.{Runner}
use Rattle.reply.specs.Reply.{respond}
use Rattle.transcript.specs.Lines.{lines_in}
use Rattle.transcript.specs.declared.Fed.{Fed}
use Rattle.transcript.specs.declared.Session.{Session}
use Rattle.transcript.specs.declared.Wanted.{Wanted}
use Rattle.transcript.specs.declared.Wanted.TheVariants as wanted

-- The number of the line after so many, as the program counts: in 64 bits.
abbrev pub following : ℕ → ℕ
following count = (count + 1) % 2 ^ 64

-- Some first lines answered: the number of lines so far, the bytes that they took, and the text.
pub record Portion : Type 0 where
  pub count : ℕ
  pub taken : ℕ
  pub text : List ℕ

abbrev pub none : ℕ → Portion
none count = record { count = count; taken = 0; text = [] }

abbrev pub onto : (line text : List ℕ) → Portion → Portion
onto line text p = record { count = p.count; taken = suc (length line) + p.taken; text = text ++ p.text }

-- As many lines as the room allows: a text needs 64 bytes of it.
unfoldable pub portion : Runner → (room count : ℕ) → List (List ℕ) → Portion
portion r room count [] = none count
portion r room count (line ∷ lines) =
    let text = respond r (following count) line in
    cond (nat_lt room 64) (none count) (onto line text (portion r (room - length text) (following count) lines))

-- What `feed` does with the lines that can be answered: those that have ended and, where the input
-- is over, the last one. And what it tells of that: the last line is counted with a newline that it
-- may lack.
abbrev pub feed : Runner → (room count : ℕ) → (over : Bool) → List ℕ → Portion
feed r room count over bytes = portion r room count (lines_in over bytes)

abbrev pub fed_of : Portion → (bytes : ℕ) → Fed
fed_of p bytes = record { count = p.count; taken = min p.taken bytes; length = length p.text }

-- Where a session stands: the number of lines answered, the bytes at hand, and whether the input is
-- over.
pub record State : Type 0 where
  pub count : ℕ
  pub bytes : List ℕ
  pub over : Bool

pub data Turn : Type 0 where
  write : (text : List ℕ) → State → Turn
  read : State → Turn
  stop : Turn

-- What is kept of a line that has not ended: "at most 255 bytes" makes a line of 256 ill-formed
-- whatever follows.
abbrev pub clipped : List ℕ → List ℕ
clipped bytes = take 256 bytes

-- Lines that are ready are answered and written; else more is read, or the session stops.
unfoldable pub turn : Runner → (room : ℕ) → State → Turn
turn r room s =
    let p = feed r room s.count s.over s.bytes in
    cond (nat_lt 0 p.taken) (write p.text (record { count = p.count; bytes = drop p.taken s.bytes; over = s.over }))
    (cond s.over stop (read (record { count = s.count; bytes = clipped s.bytes; over = false })))

-- After a read: more bytes are at hand; no byte is the end of the input; and after a read that
-- failed there is nothing to answer.
unfoldable pub received : List ℕ → State → State
received [] s = record { count = s.count; bytes = s.bytes; over = true }
received (b ∷ piece) s = record { count = s.count; bytes = s.bytes ++ b ∷ piece; over = s.over }

abbrev pub failed : State → State
failed s = record { count = s.count; bytes = []; over = true }

-- What the code holds and tells. The bytes at hand are those of a buffer from `at` to `end`.
abbrev pub session_state : Session → (buffer : List ℕ) → State
session_state s buffer = record { count = s.count; bytes = drop s.at (take s.end buffer); over = s.over }

-- The same session, with the ends of its part within the buffer.
pub record IsWithin (session within : Session) (buffer : List ℕ) : Type 0 where
  pub same : session_state within buffer ≡ session_state session buffer
  pub behind : drop within.end buffer ≡ drop session.end buffer
  pub ordered : within.at ≤ within.end
  pub in_bounds : within.end ≤ length buffer

unfoldable pub wanted_of : Wanted → (out : List ℕ) → State → Turn
wanted_of (wanted.Write length) out s = write (take length out) s
wanted_of wanted.Read out s = read s
wanted_of wanted.Stop out s = stop

-- A text that is wanted written is there.
abbrev pub IsThere : Wanted → (out : List ℕ) → Type 0
IsThere (wanted.Write length) out = IsPrefixLen length out
IsThere wanted.Read out = ⊤
IsThere wanted.Stop out = ⊤

-- What the code makes of the answer of a read, which put its bytes behind those at hand: a count of
-- them, or none where it failed.
unfoldable pub after_read : Option ℕ → (behind : List ℕ) → State → State
after_read (Some count) behind s = received (take count behind) s
after_read None behind s = failed s
