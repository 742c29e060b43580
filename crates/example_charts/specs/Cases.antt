-- A case of the tables, what the definitions give for it, and what they are to give.
use Rattle.std.specs.Prelude.{Ok, Err, ℕ, ◌≡◌, List, [], ◌∷◌, ◌++◌, map, length, replicate, Result}
use Rattle.block.specs.declared.Refusal.{Refusal}
use Rattle.format.specs.declared.Header.{Header}
use Rattle.block.specs.Block.{checksum}
use Rattle.block.specs.Refusing.{refusal}
use Rattle.format.specs.File.{header_of, check_file}
use Rattle.convert.specs.Convert.{Conversion, conversion, convert}
use Rattle.operations.specs.Operation.{read_by, value_of}
use Rattle.marks.specs.Marks.{Mode, union, by_mode, set_by}
use Rattle.marks.specs.declared.Masks.{Masks}
use Rattle.machine.specs.Run.{Ending}
use Rattle.begin.specs.Begin.{effective}
use Rattle.calls.specs.Calls.{load, begin, advance, answer, write_back, rewrite}
use Rattle.runner.specs.State.{new_runner}
use Rattle.runner.specs.Outcomes.{Reply, done, chart, ended, ending, wrote, Told}
use Rattle.call_claims.specs.Lists.{tells}

-- A file and the answer of load's input checks; a file that is loaded and written back to itself,
-- or rewritten between and written back to another; a file and a buffer, what the converter tells
-- and the buffer after it; a chart's file, what begin is given, and the ending with its steps, of
-- the chart or of the rewritten one; an operation of an edition, its operands and its result; what
-- a block's check adds, the block, and its check; or two masks, of the inputs to keep and of those
-- to take, the old set, the sets read, and the new set.
pub data Case : Type 0 where
  answers : (file : List ℕ) → Result Header Refusal → Case
  returns : (file : List ℕ) → Case
  rewrites : (file new : List ℕ) → Case
  converts : (file buffer : List ℕ) → Result ℕ Refusal → (end : List ℕ) → Case
  runs : (file : List ℕ) (mode : Mode) (inputs : List ℕ) (allowed limit : ℕ) → Ending → (steps : ℕ) → Case
  runs_rewritten : (file : List ℕ) (mode : Mode) (inputs : List ℕ) (allowed limit : ℕ) → Ending → (steps : ℕ) → Case
  operates : (edition op left right result : ℕ) → Case
  checks : (added : ℕ) (block : List ℕ) (check : ℕ) → Case
  sets : Masks → (before : ℕ) (read : List ℕ) (set : ℕ) → Case

-- "mode (0 bare, 1 surveillance, 2 high-water)": the number by which begin is asked for a mode.
abbrev pub number_of : Mode → ℕ
number_of mode = by_mode mode 0 1 2

-- What a case gives: the answer of the checks, a conversion, what calls tell, or a number.
pub data Given : Type 0 where
  checked : Result Header Refusal → Given
  converted : Conversion → Given
  told : List Told → Given
  number : ℕ → Given

-- What the definitions give: what the checks answer; what a new runner tells for load and write
-- back into as many bytes, all 0; what the converter does; what a new runner tells for load, begin,
-- advance to the limit and answer, or with a rewriting after the load; the operation's result; the
-- block's check; the new set.
unfoldable pub gives : Case → Given
gives (answers file so) = checked (check_file file)
gives (returns file) = told (tells (load file ∷ write_back (replicate (length file) 0) ∷ []) new_runner)
gives (rewrites file new) = told (tells (load file ∷ rewrite ∷ write_back (replicate (length file) 0) ∷ []) new_runner)
gives (converts file buffer so end) = converted (convert file buffer)
gives (runs file mode inputs allowed limit e steps) =
    told (tells (load file ∷ begin (number_of mode) inputs allowed limit ∷ advance (effective limit) ∷ answer ∷ []) new_runner)
gives (runs_rewritten file mode inputs allowed limit e steps) =
    told (tells (load file ∷ rewrite ∷ begin (number_of mode) inputs allowed limit ∷ advance (effective limit) ∷ answer ∷ []) new_runner)
gives (operates edition op left right result) = number (value_of edition op 0 (read_by edition op left right))
gives (checks added block check) = number (checksum added block)
gives (sets masks before read set) = number (set_by masks before (union read))

-- Replies where no byte is lent to be written.
abbrev pub replied : List Reply → List Told
replied rs = map (λ (x : Reply). record { reply = x; buffer = [] }) rs

-- The steps that an advance is to tell with "ended". 02, b: "Advance in this mode tells only
-- "ended" with 0 steps", high-water.
abbrev steps_at_the_end : (mode : Mode) (steps : ℕ) → ℕ
steps_at_the_end mode steps = by_mode mode steps steps 0

-- What load tells of a file that it accepts.
abbrev chart_reply : List ℕ → Reply
chart_reply file = chart (header_of file).inputs (header_of file).boxes

-- What they are to give.
unfoldable pub expected : Case → Given
expected (answers file so) = checked so
expected (returns file) = told (record { reply = chart_reply file; buffer = [] } ∷ record { reply = wrote (length file); buffer = file } ∷ [])
expected (rewrites file new) = told (replied (chart_reply file ∷ done ∷ []) ++ (record { reply = wrote (length file); buffer = new } ∷ []))
expected (converts file buffer so end) = converted (conversion so end)
expected (runs file mode inputs allowed limit e steps) =
    told (replied (chart_reply file ∷ done ∷ ended (steps_at_the_end mode steps) ∷ ending e steps ∷ []))
expected (runs_rewritten file mode inputs allowed limit e steps) =
    told (replied (chart_reply file ∷ done ∷ done ∷ ended (steps_at_the_end mode steps) ∷ ending e steps ∷ []))
expected (operates edition op left right result) = number result
expected (checks added block check) = number check
expected (sets masks before read set) = number set

-- What load's checks answer: a header, or a refusal.
abbrev pub accepted : (edition k n first : ℕ) → Result Header Refusal
accepted edition k n first = Ok (record { edition = edition; inputs = k; boxes = n; first = first })

abbrev pub refused : ℕ → ℕ → Result Header Refusal
refused n detail = Err (refusal n detail)

-- A table of so many cases, each of which gives what is expected.
abbrev pub Table : ℕ → List Case → Type 0
Table rows cases = (length cases ≡ rows) × (map gives cases ≡ map expected cases)
