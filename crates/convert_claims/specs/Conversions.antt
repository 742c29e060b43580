-- Claims about the converter (02, f).
use Rattle.std.specs.Prelude.{Ok, Err, ℕ, ◌≤◌, ◌<◌, ◌≡◌, List, ◌∷◌, ◌++◌, ◌⊎◌, true, false, length, take, drop}
use Rattle.boxes.specs.Bytes.{at, box_of}
use Rattle.boxes.specs.Box.{has_kind, well_formed}
use Rattle.block.specs.Refusing.{refusal}
use Rattle.format.specs.File.{header_of, is_edition, check_file}
use Rattle.format.specs.declared.Header.{Header}
use Rattle.block.specs.declared.Refusal.{Refusal}
use Rattle.chart.specs.Chart.{table_of, chart_of}
use Rattle.convert.specs.Convert.{conversion, convert}
use Rattle.marks.specs.Marks.{Mode}
use Rattle.calls.specs.Calls.{Call, load, begin, advance, answer, abandon, write_back, rewrite}
use Rattle.runner.specs.declared.Runner.{Runner}
use Rattle.runner.specs.State.{is_running, flowchart_of}
use Rattle.runs.specs.Whole.{whole}
use Rattle.runner.specs.Outcomes.{call}
use Rattle.call_claims.specs.Lists.{Accepted, tells, Along}

-- A file converts to another: given some buffer, the converter tells the other's length and leaves
-- it at the buffer's front.
pub record ConvertsTo (f g : List ℕ) : Type 0 where
  pub buffer : List ℕ
  pub told : (convert f buffer).told ≡ Ok (length g)
  pub front : take (length g) (convert f buffer).buffer ≡ g

-- "the other edition's file, with the same boxes in the same places": load accepts both files.
pub record OtherEdition (f g : List ℕ) : Type 0 where
  pub accepted : check_file f ≡ Ok (header_of f)
  pub accepted' : check_file g ≡ Ok (header_of g)
  pub editions : (((header_of f).edition ≡ 1) × ((header_of g).edition ≡ 2)) ⊎ (((header_of f).edition ≡ 2) × ((header_of g).edition ≡ 1))
  pub inputs : (header_of g).inputs ≡ (header_of f).inputs
  pub boxes : (header_of g).boxes ≡ (header_of f).boxes
  pub first : (header_of g).first ≡ (header_of f).first
  pub table : table_of g ≡ table_of f

abbrev pub ConvertsToOther : Type 0
ConvertsToOther = (f g : List ℕ) → ConvertsTo f g → OtherEdition f g

-- "writes the other edition's file .. at the front of the buffer. Bytes past it stay untouched; the
-- converter tells the file's length", whatever the buffer holds; "and then, with 12, a buffer
-- shorter than the file".
abbrev pub ConvertsIntoAny : Type 0
ConvertsIntoAny =
    (f g buffer : List ℕ)
    → ConvertsTo f g
    → (length g ≤ length buffer → convert f buffer ≡ conversion (Ok (length g)) (g ++ drop (length g) buffer))
    × (length buffer < length g → convert f buffer ≡ conversion (Err (refusal 12 0)) buffer)

-- "Converting back gives the original file."
abbrev pub ConvertsBack : Type 0
ConvertsBack = (f g : List ℕ) → ConvertsTo f g → ConvertsTo g f

-- Whole runs of the charts of two files end alike, whatever the numbers, where the files are
-- related so.
abbrev pub EndsAlikeWhere : ((f g : List ℕ) → Type 0) → Type 0
EndsAlikeWhere Related =
    (f g : List ℕ)
    → Related f g
    → (mode : Mode) (inputs : List ℕ) (allowed limit : ℕ)
    → whole (flowchart_of (chart_of g)) mode inputs allowed limit ≡ whole (flowchart_of (chart_of f)) mode inputs allowed limit

-- "For every mode, input, allowed set and limit the converted chart must end as the original does".
abbrev pub EndsAlike : Type 0
EndsAlike = EndsAlikeWhere ConvertsTo

-- What is asked of a call so that it tells nothing of the edition: that it writes no chart back,
-- and that a rewriting comes during a run, where 22 refuses it in either edition; else 15 tells
-- edition 1. A load puts one chart into both runners.
abbrev pub TellsNoEdition : Call → Runner → Type 0
TellsNoEdition (load file) r = Unit {0}
TellsNoEdition (begin mode inputs allowed limit) r = Unit {0}
TellsNoEdition (advance m) r = Unit {0}
TellsNoEdition answer r = Unit {0}
TellsNoEdition abandon r = Unit {0}
TellsNoEdition (write_back buffer) r = Accepted (write_back buffer) r → ⊥
TellsNoEdition rewrite r = is_running r ≡ true

-- The same through the calls, for lists whose calls meet a condition. Each file is loaded into a
-- runner that has no run under way, whatever else it holds, and the same calls follow. Both tell
-- the same, the loads included.
abbrev pub TellsAlikeWhere : (Call → Runner → Type 0) → Type 0
TellsAlikeWhere Holds =
    (f g : List ℕ)
    → ConvertsTo f g
    → (r r' : Runner)
    → is_running r ≡ false
    → is_running r' ≡ false
    → (cs : List Call)
    → Along Holds cs (call (load f) r).next
    → tells (load g ∷ cs) r' ≡ tells (load f ∷ cs) r

abbrev pub TellsAlike : Type 0
TellsAlike = TellsAlikeWhere TellsNoEdition

-- A box that 14 speaks of, in a chart of this header: "a box of operation 2, 3 or 11 (or of a kind
-- that the other edition lacks)". Only an assignment has an operation.
pub data Untaken (h : Header) (b : List ℕ) : Type 0 where
  operation : at b 0 ≡ 1 → (at b 2 ≡ 2) ⊎ (at b 2 ≡ 3) ⊎ (at b 2 ≡ 11) → Untaken h b
  kind : ((h.edition ≡ 1) × (has_kind 2 (at b 0) ≡ false)) ⊎ ((h.edition ≡ 2) × (has_kind 1 (at b 0) ≡ false)) → Untaken h b

-- "the first such box".
pub record FirstUntaken (f : List ℕ) (p : ℕ) : Type 0 where
  pub below : p < (header_of f).boxes
  pub here : Untaken (header_of f) (box_of (table_of f) p)
  pub none : (q : ℕ) → q < p → Untaken (header_of f) (box_of (table_of f) q) → ⊥

-- A file that load accepts is refused by 14 exactly where it has such a box, whatever the buffer,
-- and the detail is the first; no other file is, and a file that has none converts.
pub record Refuses (f : List ℕ) : Type 0 where
  pub only : (buffer : List ℕ) (p : ℕ) → (convert f buffer).told ≡ Err (refusal 14 p) → (check_file f ≡ Ok (header_of f)) × FirstUntaken f p
  pub where_first : check_file f ≡ Ok (header_of f) → (buffer : List ℕ) (p : ℕ) → FirstUntaken f p → (convert f buffer).told ≡ Err (refusal 14 p)
  pub else :
      check_file f ≡ Ok (header_of f)
      → ((p : ℕ) → p < (header_of f).boxes → Untaken (header_of f) (box_of (table_of f) p) → ⊥)
      → (g : List ℕ) × ConvertsTo f g

abbrev pub RefusesFirstUntaken : Type 0
RefusesFirstUntaken = (f : List ℕ) → Refuses f

-- The kinds that an edition has are those of which it has a box that breaks no rule.
abbrev pub KindsOfBoxes : Type 0
KindsOfBoxes =
    ((edition k n : ℕ) (b : List ℕ) → well_formed edition k n b ≡ true → has_kind edition (at b 0) ≡ true)
    × ((edition kind : ℕ)
    → is_edition edition ≡ true
    → has_kind edition kind ≡ true
    → (k : ℕ) × (n : ℕ) × (b : List ℕ) × (at b 0 ≡ kind) × (well_formed edition k n b ≡ true))

-- "01's load checks 1 to 6 come first."
abbrev pub RefusedAsLoaded : Type 0
RefusedAsLoaded = (f buffer : List ℕ) (x : Refusal) → check_file f ≡ Err x → (convert f buffer).told ≡ Err x

-- A refusal changes no byte of the buffer.
abbrev pub RefusalLeavesBuffer : Type 0
RefusalLeavesBuffer = (f buffer : List ℕ) (x : Refusal) → (convert f buffer).told ≡ Err x → (convert f buffer).buffer ≡ buffer
