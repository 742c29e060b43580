-- Claims about the charts that reachable runners hold, and the round trip of a file through the
-- calls.
use Rattle.std.specs.Prelude.{ℕ, ◌^◌, ◌≤◌, ◌<◌, ◌≡◌, List, [], ◌∷◌, ◌++◌, true, false, length, take, drop}
use Rattle.boxes.specs.Bytes.{all_zero, box_of}
use Rattle.boxes.specs.Box.{readable}
use Rattle.format.specs.File.{box_rule}
use Rattle.format.specs.declared.Header.{Header}
use Rattle.chart_claims.specs.Claims.{HeaderInRange, BoxInRange}
use Rattle.decode.specs.Decode.{Box, assigns, decides, halts, flow}
use Rattle.machine.specs.Run.{Run, value_in, named_in}
use Rattle.run_claims.specs.Sets.{AllSets}
use Rattle.calls.specs.Calls.{Call, load, begin, write_back}
use Rattle.runner.specs.declared.Runner.{Runner}
use Rattle.runner.specs.State.{is_held, is_running, is_ended, ending_in, total_in, state_number, mode_number, run_in, dropped}
use Rattle.runner.specs.Outcomes.{chart, wrote, Effect, runs, keeps, begins, drops, replaces, effect, call}
use Rattle.call_claims.specs.Lists.{Reached, Accepted, final, Along}

-- "An operand that is read is an input below k or a variable 16 to 31", and so is every variable
-- that a box reads when it is run.
abbrev pub AllReadable : (k : ℕ) → List ℕ → Type 0
AllReadable k [] = Unit {0}
AllReadable k (v ∷ vs) = (readable k v ≡ true) × AllReadable k vs

abbrev pub ReadsOnly : (k : ℕ) → Box → Type 0
ReadsOnly k (assigns target reads gives next) = AllReadable k reads
ReadsOnly k (decides reads holds next other) = AllReadable k reads
ReadsOnly k halts = Unit {0}

-- A chart that obeys the rules: its numbers are in range, its boxes are well formed and read only
-- what the rules allow, and its table is 0 past them.
pub record Obeys (h : Header) (table : List ℕ) : Type 0 where
  pub long : length table ≡ 2040
  pub header : HeaderInRange h
  pub formed : (p : ℕ) → p < h.boxes → box_rule h (box_of table p) ≡ true
  pub ranged : (p : ℕ) → p < h.boxes → BoxInRange h.edition h.boxes (box_of table p)
  pub reads : (p : ℕ) → p < h.boxes → ReadsOnly h.inputs (flow h.edition table p)
  pub zero : (p : ℕ) → h.boxes ≤ p → all_zero (box_of table p) ≡ true

abbrev pub HeldObeys : Type 0
HeldObeys = (r : Runner) → Reached r → is_held r ≡ true → Obeys r.header r.table

-- A run under way on a chart is at one of its boxes, below a limit that can be set, with 32
-- variables and marks.
pub record RunInRange (h : Header) (q : Run) : Type 0 where
  pub at : q.at < h.boxes
  pub below : q.steps < q.limit
  pub limit : q.limit ≤ 65535
  pub vars : length q.vars ≡ 32
  pub marks : length q.marks ≡ 32

-- A set of inputs of a chart: no "bit at k or above".
abbrev pub InputsOf : Header → ℕ → Type 0
InputsOf h set = set < 2 ^ h.inputs

-- A run under way is on the chart held, in a mode that there is, its marks are sets of the chart's
-- inputs, and there is no earlier ending. So the answers that the definitions give elsewhere are
-- never met.
pub record UnderWay (r : Runner) : Type 0 where
  pub held : is_held r ≡ true
  pub mode : mode_number r.mode ≤ 2
  pub ranged : RunInRange r.header (run_in r)
  pub sets : AllSets (InputsOf r.header) (run_in r)
  pub forgot : (total_in r ≡ 0) × (value_in (ending_in r) ≡ 0) × (named_in (ending_in r) ≡ 0)

abbrev pub RunsInRange : Type 0
RunsInRange = (r : Runner) → Reached r → is_running r ≡ true → UnderWay r

-- The mode of a runner is one that there is by its type. That the run has the mode that begin was
-- given, and that this is 0, 1 or 2, is said of the number.
abbrev pub BeginsInMode : Type 0
BeginsInMode =
    (r : Runner) (mode : ℕ) (inputs : List ℕ) (allowed limit : ℕ)
    → Accepted (begin mode inputs allowed limit) r
    → (mode ≤ 2) × (mode_number (call (begin mode inputs allowed limit) r).next.mode ≡ mode)

-- An ended run is of a held chart, has one of the three endings, and names inputs of that chart.
abbrev pub EndsInRange : Type 0
EndsInRange = (r : Runner) → Reached r → is_ended r ≡ true → (is_held r ≡ true) × (state_number r.state ≤ 4) × InputsOf r.header (named_in (ending_in r))

-- What is asked of a call so that it keeps the chart: nothing, but where it puts another in its
-- place.
abbrev pub KeepsChart : Effect → Type 0 → Type 0
KeepsChart (runs m) Else = Unit {0}
KeepsChart keeps Else = Unit {0}
KeepsChart (begins mode start) Else = Unit {0}
KeepsChart drops Else = Unit {0}
KeepsChart (replaces by) Else = Else

-- No call of a list puts another chart in the place of the one held: one that would is refused.
abbrev pub AllKeepChart : List Call → Runner → Type 0
AllKeepChart cs r = Along (λ c x. KeepsChart (effect c) (Accepted c x → ⊥)) cs r

-- "Writing back a loaded chart reproduces its file", whatever calls but another load or a rewriting
-- stand between, and during a run.
abbrev pub LoadedIsWritten : Type 0
LoadedIsWritten =
    (r : Runner) (file buffer : List ℕ) (cs : List Call)
    → Accepted (load file) r
    → AllKeepChart cs (call (load file) r).next
    → length file ≤ length buffer
    → (call (write_back buffer) (final cs (call (load file) r).next)).told
    ≡ record { reply = wrote (length file); buffer = file ++ drop (length file) buffer }

-- "and loading that file reproduces the chart": what any reachable runner writes back, loaded into
-- any other with which it meets a condition. The length of the file is the one told.
abbrev pub WrittenLoadsWhere : (Runner → Runner → Type 0) → Type 0
WrittenLoadsWhere Holds =
    (r r' : Runner) (buffer : List ℕ) (bytes : ℕ)
    → Reached r
    → (call (write_back buffer) r).told.reply ≡ wrote bytes
    → Holds r r'
    → call (load (take bytes (call (write_back buffer) r).told.buffer)) r'
    ≡ record { told = record { reply = chart r.header.inputs r.header.boxes; buffer = [] }; next = dropped r }

-- The one that loads has no run under way, and nothing is asked of the one that wrote.
abbrev pub SecondRests : Runner → Runner → Type 0
SecondRests r r' = is_running r' ≡ false

abbrev pub WrittenIsLoaded : Type 0
WrittenIsLoaded = WrittenLoadsWhere SecondRests
