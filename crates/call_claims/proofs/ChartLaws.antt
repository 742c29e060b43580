-- The claims about held charts and the round trip, from what holds of every reachable runner.
-- Assumes nothing.
use Rattle.std.specs.Prelude.{Ok, Err, Result, ⊤}
use Rattle.block.specs.declared.Refusal.{Refusal}
use Prim.Native.Nat.{ℕ, zero, suc, ◌≤◌}
use mathlib.Core.Path.{◌≡◌, refl, ap, sym, ◌∙◌}
use mathlib.Core.List.{List, [], ◌∷◌, ◌++◌}
use mathlib.Core.Bool.{false}
use native.Mathlib.Omega.{arith}
use lib.ListN.{length, take, drop}
use lib.Seq.{take_at}
use Rattle.format.specs.File.{header_of, check_file}
use Rattle.format.specs.declared.Header.{Header}
use Rattle.format.proofs.Passes.{passes}
use Rattle.chart.specs.Chart.{table_of, Chart, chart_of, file_of}
use Rattle.chart.specs.WriteBack.{file_length}
use Rattle.chart_claims.proofs.RoundTrip.{file_again}
use Rattle.chart_claims.proofs.Rules.{obeys_rules, stays_in_range}
use Rattle.machine.specs.Run.{Progress, going, over}
use Rattle.marks.specs.Marks.{code_of}
use Rattle.calls.specs.Calls.{Call, load, begin, write_back, file_verdict, check}
use Rattle.calls.proofs.Permits.{permitted, write_back_fits}
use Rattle.runner.specs.declared.Runner.{Runner}
use Rattle.runner.specs.State.{chart_in, is_running, standing_of, mode_number, idle, ended_with, dropped, ran, resumed}
use Rattle.runner.specs.Outcomes.{wrote, chart, Outcome, Effect, runs, keeps, begins, drops, replaces, effect, says, after, outcome_by, call}
use Rattle.call_claims.specs.Lists.{Accepted, final}
use Rattle.call_claims.specs.Charts.{Obeys, HeldObeys, RunsInRange, BeginsInMode, EndsInRange, KeepsChart, AllKeepChart, LoadedIsWritten, WrittenIsLoaded}
use Rattle.run_claims.proofs.Branches.{clash}
use Rattle.call_claims.proofs.Accepting.{call_done}
use Rattle.call_claims.proofs.Decoded.{reads_only}
use Rattle.call_claims.proofs.Reachable.{sound, accepted_file}
use Rattle.call_claims.proofs.OneChart.{room_accepts, write_does, own_file, own_length}

-- A chart out of a file obeys the rules.
from_obeys : (h : Header) (table file : List ℕ) → check_file file ≡ Ok h → table ≡ table_of file → Obeys h table
from_obeys h table file e t =
    let o = obeys_rules file h e in
    let s = stays_in_range file h e in
    record {
      long = rw t o.long;
      header = s.0;
      formed = rw t o.formed;
      ranged = rw t s.1;
      reads =
          λ p l. rw t
          (reads_only h.edition h.inputs h.boxes (table_of file) p (omega (arith, s.0.fits, l)) (o.formed p l));
      zero = rw t o.zero;
    }

pub held_obeys : HeldObeys
held_obeys r g h = let f = (sound g).held h in from_obeys r.header r.table f.file f.checks f.loads

pub runs_in_range : RunsInRange
runs_in_range r g e = (sound g).runs e

-- The number of the mode that a number makes.
number_kept : (mode : ℕ) → mode ≤ 2 → mode_number (code_of mode) ≡ mode
number_kept zero l = refl
number_kept (suc zero) l = refl
number_kept (suc (suc zero)) l = refl
number_kept (suc (suc (suc mode))) l = absurd (omega arith)

pub begins_in_mode : BeginsInMode
unfolding outcome_by after
begins_in_mode r mode inputs allowed limit e =
    let known = (permitted mode inputs allowed limit (standing_of r) e).known in
    (known, ap (λ (o : Outcome). mode_number o.next.mode) (call_done (begin mode inputs allowed limit) r e) ∙ number_kept mode known)

pub ends_in_range : EndsInRange
ends_in_range r g e = let s = (sound g).ends e in (s.0, s.1, s.2)

-- Every call but one that puts another in its place keeps the chart.
resumed_kept : (p : Progress) (r : Runner) → chart_in (resumed p r) ≡ chart_in r
unfolding resumed ended_with
resumed_kept (going q) r = refl
resumed_kept (over e steps) r = refl

after_kept : (x : Effect) (r : Runner) → KeepsChart x ⊥ → chart_in (after x r) ≡ chart_in r
unfolding after dropped
after_kept (runs m) r n = resumed_kept (ran m r) r
after_kept keeps r n = refl
after_kept (begins mode start) r n = refl
after_kept drops r n = refl
after_kept (replaces by) r n = absurd n

-- What is asked of a call that would be refused is asked of no other.
if_accepted : (x : Effect) {Err : Type 0} → (Err → ⊥) → KeepsChart x Err → KeepsChart x ⊥
if_accepted (runs m) f n = tt
if_accepted keeps f n = tt
if_accepted (begins mode start) f n = tt
if_accepted drops f n = tt
if_accepted (replaces by) f n = f n

next_kept : (c : Call) (r : Runner) → KeepsChart (effect c) (Accepted c r → ⊥) → chart_in (call c r).next ≡ chart_in r
unfolding call outcome_by
next_kept c r n = on (check c (standing_of r)) refl
  where
    on : (v : Result ⊤ Refusal) → check c (standing_of r) ≡ v → chart_in (outcome_by v c r).next ≡ chart_in r
    on (Ok _) e = after_kept (effect c) r (if_accepted (effect c) (λ no. no e) n)
    on (Err x) e = refl

final_kept : (cs : List Call) (r : Runner) → AllKeepChart cs r → chart_in (final cs r) ≡ chart_in r
unfolding final
final_kept [] r n = refl
final_kept (c ∷ cs) r n = final_kept cs (call c r).next n.1 ∙ next_kept c r n.0

pub load_does : (file : List ℕ) (r : Runner) → Accepted (load file) r
    → call (load file) r ≡ record { told = record { reply = chart (header_of file).inputs (header_of file).boxes; buffer = [] }; next = idle (chart_of file) }
unfolding outcome_by says after
load_does file r e = call_done (load file) r e

-- What a runner with the chart of a file writes back.
writes_file : (q : Runner) (file buffer : List ℕ) → check_file file ≡ Ok q.header → q.table ≡ table_of file → length file ≤ length buffer
    → (call (write_back buffer) q).told ≡ record { reply = wrote (length file); buffer = file ++ drop (length file) buffer }
writes_file q file buffer e t room =
    let a = passes file q.header e in
    let long : file_length q.header ≡ length file = sym a.long in
    let again : file_of q.header q.table ≡ file = ap (file_of q.header) t ∙ file_again file q.header e in
    let accepts = room_accepts q buffer a.ranged (omega arith) in
    ap (λ (o : Outcome). o.told) (write_does q buffer accepts) ∙ rw (long, again)

pub loaded_is_written : LoadedIsWritten
loaded_is_written r file buffer cs a n room =
    let e = accepted_file file r a in
    let last = final cs (call (load file) r).next in
    let held : chart_in last ≡ chart_of file = final_kept cs (call (load file) r).next n ∙ ap (λ (o : Outcome). chart_in o.next) (load_does file r a) in
    let header : last.header ≡ header_of file = ap (λ (c : Chart). c.header) held in
    writes_file last file buffer (e ∙ ap Ok (sym header)) (ap (λ (c : Chart). c.table) held) room

-- A file that is accepted loads into any runner that has no run under way.
pub loads_file : (q : Runner) (file : List ℕ) → check_file file ≡ Ok (header_of file) → is_running q ≡ false → Accepted (load file) q
unfolding check file_verdict
loads_file q file e n = rw (n, e)

wrote_accepted : (r : Runner) (buffer : List ℕ) (bytes : ℕ) → (call (write_back buffer) r).told.reply ≡ wrote bytes → Accepted (write_back buffer) r
unfolding call outcome_by
wrote_accepted r buffer bytes e = on (check (write_back buffer) (standing_of r)) refl e
  where
    on : (v : Result ⊤ Refusal) → check (write_back buffer) (standing_of r) ≡ v → (outcome_by v (write_back buffer) r).told.reply ≡ wrote bytes → v ≡ Ok tt
    on (Ok _) q z = refl
    on (Err x) q z = clash cc

pub written_is_loaded : WrittenIsLoaded
unfolding dropped
written_is_loaded r r' buffer bytes g told n =
    let a = wrote_accepted r buffer bytes told in
    let does = write_does r buffer a in
    let f = (sound g).held (write_back_fits buffer (standing_of r) a).0 in
    let same : wrote (file_length r.header) ≡ wrote bytes = sym (ap (λ (o : Outcome). o.told.reply) does) ∙ told in
    let size : file_length r.header ≡ bytes = cc in
    let rest = drop (file_length r.header) buffer in
    let file : take bytes (call (write_back buffer) r).told.buffer ≡ f.file =
    ap (λ (o : Outcome). take bytes o.told.buffer) does
    ∙ take_at (file_of r.header r.table) rest bytes (own_length f ∙ size)
    ∙ own_file f in
    let header : r.header ≡ header_of f.file = (passes f.file r.header f.checks).header in
    let loads = loads_file r' f.file (f.checks ∙ ap Ok header) n in
    let loaded : chart_of f.file ≡ chart_in r = (let table = f.loads in cc) in
    ap (λ (x : List ℕ). call (load x) r') file
    ∙ load_does f.file r' loads
    ∙ ap (λ (c : Chart). record { told = record { reply = chart c.header.inputs c.header.boxes; buffer = [] }; next = idle c }) loaded
