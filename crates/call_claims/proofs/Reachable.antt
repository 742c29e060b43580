-- What holds of every reachable runner: a chart that is held came out of a file, a run under way is
-- in range, and a runner without one is at rest. A new runner has it, a box keeps it, and so does
-- every call. Assumes nothing.
use Rattle.std.specs.Prelude.{Ok, Err, Result, ⊤}
use Rattle.block.specs.declared.Refusal.{Refusal}
use Prim.Native.Nat.{ℕ, ◌≤◌, ◌<◌}
use mathlib.Core.Path.{◌≡◌, refl, ap, sym, ◌∙◌, subst}
use mathlib.Core.List.{List}
use mathlib.Core.Bool.{true, false, cond, true≢false, false≢true}
use native.Mathlib.Omega.{arith}
use lib.Bits.{or_lt}
use lib.Pow.{pow_pos, pow-lt}
use lib.ListN.{length, length-set}
use Rattle.boxes.specs.Bytes.{box_of}
use Rattle.format.specs.File.{header_of, in_range, check_file}
use Rattle.format.specs.declared.Header.{Header}
use Rattle.format.proofs.Passes.{passes}
use Rattle.format.proofs.Ranges.{in_range_lem}
use Rattle.chart.specs.Chart.{table_of, Chart, file_of}
use Rattle.rewrite.specs.Rewrite.{rewritten, rewritten_chart}
use Rattle.chart_claims.specs.Claims.{Ruled, BoxInRange}
use Rattle.chart_claims.proofs.Rules.{obeys_rules, stays_in_range}
use Rattle.chart_claims.proofs.Ruled.{ruled_is_loaded}
use Rattle.chart_claims.proofs.Rewritten.{rewritten_is_ruled}
use Rattle.decode.specs.Decode.{Box, flow}
use Rattle.marks.specs.Marks.{Mode, mode_of, union, decision_notice, counter_mark, halt_notice, code_of}
use Rattle.machine.specs.Act.{entry, entries, act_by, act}
use Rattle.machine.specs.Run.{Run, Ending, valued, notice, spent, Progress, going, over, moved, goes_on, settle, step, run, named_in}
use Rattle.machine.specs.declared.Act.TheVariants.{Go, Value}
use Rattle.machine.proofs.Runs.{run_keeps, goes_by, notice_by}
use Rattle.runs.proofs.Disclosed.{disclosed_by}
use Rattle.begin.specs.Begin.{effective}
use Rattle.begin.proofs.Begins.{effective_positive, effective_fits, length_vars, length_marks, marks_all}
use Rattle.calls.specs.Calls.{Call, load, begin, advance, answer, abandon, write_back, rewrite, file_verdict, check}
use Rattle.calls.proofs.Permits.{not_done, passed, permitted, advance_enough, rewrites_second}
use Rattle.runner.specs.declared.State.TheVariants.{Running}
use Rattle.runner.specs.declared.Runner.{Runner}
use Rattle.runner.proofs.States.{runs_in, mode_few}
use Rattle.runner.specs.State.{chart_in, flowchart_in, is_held, is_running, is_ended, standing_of, ending_in, run_in, with_run, under_way, idle, new_runner, ended_with, dropped, flow_in, ran, resumed, mode_held, state_number, total_in}
use Rattle.runs.specs.Whole.{start_of}
use Rattle.runner.specs.Outcomes.{after, outcome_by, call}
use Rattle.call_claims.specs.Lists.{Reached, fresh, then}
use Rattle.call_claims.specs.Charts.{RunInRange, InputsOf, UnderWay}
use Rattle.run_claims.proofs.Branches.{cond_both}
use Rattle.run_claims.proofs.Carried.{Carries, run_carries}
use Rattle.call_claims.proofs.Decoded.{GoesBelow, assign_below, decide_below, halt_below, goes_below}

-- A chart that came out of a file.
pub record From (h : Header) (table : List ℕ) : Type 0 where
  pub file : List ℕ
  pub checks : check_file file ≡ Ok h
  pub loads : table ≡ table_of file

pub record Sound (r : Runner) : Type 0 where
  pub held : is_held r ≡ true → From r.header r.table
  pub rests : is_running r ≡ false → is_ended r ≡ false → r ≡ dropped r
  pub runs : is_running r ≡ true → UnderWay r
  pub ends : is_ended r ≡ true → (is_held r ≡ true) × (state_number r.state ≤ 4) × InputsOf r.header (named_in (ending_in r)) × (r ≡ ended_with (ending_in r) (total_in r) r)

-- A runner without a run, and with an ended one.
dropped_sound : (c : Chart) → (in_range c.header ≡ true → From c.header c.table) → Sound (idle c)
unfolding dropped
dropped_sound c f =
    record { held = f; rests = λ e q. refl; runs = λ e. absurd (false≢true e); ends = λ e. absurd (false≢true e) }

over_sound : (q : Runner) → From q.header q.table → is_held q ≡ true → is_ended q ≡ true → is_running q ≡ false → state_number q.state ≤ 4
    → InputsOf q.header (named_in (ending_in q))
    → q ≡ ended_with (ending_in q) (total_in q) q
    → Sound q
over_sound q f h e n l i is =
    record { held = λ z. f; rests = λ z y. absurd (true≢false (sym e ∙ y)); runs = λ z. absurd (false≢true (sym n ∙ z)); ends = λ z. (h, l, i, is) }

ended_sound : (e : Ending) (steps : ℕ) (r : Runner) → From r.header r.table → is_held r ≡ true → InputsOf r.header (named_in e)
    → Sound (ended_with e steps r)
unfolding ended_with
ended_sound (valued v) steps r f h i = over_sound _ f h refl refl (omega arith) i refl
ended_sound (notice named) steps r f h i = over_sound _ f h refl refl (omega arith) i refl
ended_sound spent steps r f h i = over_sound _ f h refl refl (omega arith) i refl

running_sound : (r : Runner) → r.state ≡ Running → From r.header r.table → UnderWay r → Sound r
running_sound r s f u =
    record {
      held = λ e. f;
      runs = λ e. u;
      ends = λ e. absurd (false≢true (rw s at e));
      rests = λ e q. absurd (true≢false (rw s at e));
    }

-- What a run in range comes to: it is over, or still in range.
abbrev Ranged : Header → Progress → Type 0
Ranged h (going q) = RunInRange h q
Ranged h (over e steps) = Unit {0}

-- One box.
module _ (h : Header) (q : Run) (u : RunInRange h q) where
  goes_ranged : (vars marks : List ℕ) (counter at : ℕ) → length vars ≡ 32 → length marks ≡ 32 → at < h.boxes
      → Ranged h (goes_on (moved q vars marks counter at))
  goes_ranged vars marks counter at lv lm b =
      goes_by (Ranged h) _ tt (λ l. record { at = b; below = l; limit = u.limit; vars = lv; marks = lm })

  settle_ranged : (m : Mode) (b : Box) → GoesBelow h.boxes b → Ranged h (settle (act m b q.vars q.marks q.counter) q)
  unfolding settle act_by
  settle_ranged m b (assign_below l) = goes_ranged _ _ _ _ (simp length-set u.vars) (simp length-set u.marks) l
  settle_ranged m b (decide_below {reads = reads} {holds = holds} {next = next} {other = other} l k) =
      let read = union (entries q.marks reads) in
      let way = cond (holds (entries q.vars reads)) next other in
      notice_by (Ranged h) m (decision_notice m read) (Go way (counter_mark m q.counter read)) q (λ e. tt)
      (λ e. goes_ranged _ _ _ _ u.vars u.marks (cond_both (λ x y. x < h.boxes) {a' = 0} {c' = 0} (holds (entries q.vars reads)) l k))
  settle_ranged m b halt_below =
      notice_by (Ranged h) m (halt_notice m q.counter (entry q.marks 31)) (Value (entry q.vars 31)) q (λ e. tt) (λ e. tt)

module _ (h : Header) (table : List ℕ) (f : From h table) where
  step_ranged : (q : Run) → RunInRange h q → Ranged h (step (flow h.edition table) q)
  step_ranged q u =
      let c = stays_in_range f.file h f.checks in
      let few : q.at < 204 = omega (arith, u.at, c.0.fits) in
      let box : BoxInRange h.edition h.boxes (box_of table q.at) =
      subst (λ (t : List ℕ). BoxInRange h.edition h.boxes (box_of t q.at)) (sym f.loads) (c.1 q.at u.at) in
      settle_ranged h q u q.mode (flow h.edition table q.at) (goes_below h.boxes h.edition table q.at few box)

  run_ranged : (m : ℕ) (q : Run) → RunInRange h q → Ranged h (run (flow h.edition table) m (going q))
  run_ranged m q u = run_keeps (flow h.edition table) (Ranged h) step_ranged m (going q) u

-- The runner that has come to it.
resumed_sound : (r : Runner) → r.state ≡ Running → From r.header r.table → UnderWay r → (p : Progress) → Ranged r.header p
    → Carries (InputsOf r.header) p
    → Sound (resumed p r)
unfolding resumed
resumed_sound r s f u (going q) x y = running_sound (with_run q r) s f
    (record {
      held = u.held;
      mode = u.mode;
      ranged = record { at = x.at; below = x.below; limit = x.limit; vars = x.vars; marks = x.marks };
      sets = record { marks = y.marks; counter = y.counter };
      forgot = u.forgot;
    })
resumed_sound r s f u (over e steps) x y = ended_sound e steps r f u.held y

-- An accepted load: the file's header and table.
pub accepted_file : (file : List ℕ) (r : Runner) → check (load file) (standing_of r) ≡ Ok tt → check_file file ≡ Ok (header_of file)
unfolding check file_verdict
accepted_file file r e = on (check_file file) refl (passed (is_running r) 22 e).1
  where
    on : (x : Result Header Refusal) → check_file file ≡ x → file_verdict x ≡ Ok tt → check_file file ≡ Ok (header_of file)
    on (Ok h) q v = q ∙ ap Ok (passes file h q).header
    on (Err x) q v = not_done v

start_sound : (mode : ℕ) (inputs : List ℕ) (allowed limit : ℕ) (r : Runner) → check (begin mode inputs allowed limit) (standing_of r) ≡ Ok tt → Sound r
    → Sound (under_way (chart_in r) mode (start_of (flowchart_in r) (mode_of mode) inputs allowed (effective limit)))
start_sound mode inputs allowed limit r e h =
    let p = permitted mode inputs allowed limit (standing_of r) e in
    let f = h.held p.held in
    let few = (in_range_lem r.header p.held).few in
    let k = r.header.inputs in
    let many : length inputs ≤ 32 = omega (arith, p.lent) in
    running_sound (under_way (chart_in r) mode (start_of (flowchart_in r) (mode_of mode) inputs allowed (effective limit))) refl f
    (record {
      held = p.held;
      mode = mode_few (code_of mode);
      ranged =
          record {
            at = (stays_in_range f.file r.header f.checks).0.start;
            below = effective_positive limit;
            limit = effective_fits limit p.fits;
            vars = length_vars inputs many;
            marks = length_marks allowed k;
          };
      sets =
          record { marks = marks_all (InputsOf r.header) allowed k (pow_pos k) (λ j l w. pow-lt l); counter = pow_pos k };
      forgot = (refl, refl, refl);
    })

advance_sound : (m : ℕ) (r : Runner) → check (advance m) (standing_of r) ≡ Ok tt → Sound r → Sound (resumed (ran m r) r)
advance_sound m r e h =
    let on = (advance_enough m (standing_of r) e).0 in
    let u = h.runs on in
    let f = h.held u.held in
    let k = r.header.inputs in
    let mode = mode_held r in
    let come = run (flow_in r) m (going (run_in r)) in
    resumed_sound r (runs_in _ on) f u (ran m r)
    (disclosed_by (Ranged r.header) mode come (run_ranged r.header r.table f m (run_in r) u.ranged) (λ z. tt))
    (disclosed_by (Carries (InputsOf r.header)) mode come
    (run_carries (InputsOf r.header) (pow_pos k) (or_lt k) (flow_in r) m (run_in r) u.sets) (λ z. pow_pos k))

-- A rewritten chart obeys the rules, so it has a file that loads to it.
rewrite_sound : (r : Runner) → check rewrite (standing_of r) ≡ Ok tt → Sound r → Sound (idle (rewritten_chart (chart_in r)))
rewrite_sound r e h =
    let allowed = rewrites_second (standing_of r) e in
    let f = h.held allowed.0 in
    let old : Ruled r.header r.table = subst (Ruled r.header) (sym f.loads) (obeys_rules f.file r.header f.checks) in
    let new = ruled_is_loaded r.header (rewritten r.table) (rewritten_is_ruled r.header r.table old allowed.2) in
    dropped_sound (rewritten_chart (chart_in r)) (λ q. record { file = file_of r.header (rewritten r.table); checks = new.0; loads = sym new.1 })

outcome_sound : (v : Result ⊤ Refusal) (c : Call) (r : Runner) → check c (standing_of r) ≡ v → Sound r → Sound (outcome_by v c r).next
unfolding outcome_by after dropped
outcome_sound (Err x) c r e h = h
outcome_sound (Ok _) (load file) r e h = dropped_sound _ (λ q. record { file = file; checks = accepted_file file r e; loads = refl })
outcome_sound (Ok _) (begin mode inputs allowed limit) r e h = start_sound mode inputs allowed limit r e h
outcome_sound (Ok _) (advance m) r e h = advance_sound m r e h
outcome_sound (Ok _) answer r e h = h
outcome_sound (Ok _) abandon r e h = dropped_sound (chart_in r) h.held
outcome_sound (Ok _) (write_back buffer) r e h = h
outcome_sound (Ok _) rewrite r e h = rewrite_sound r e h

pub sound : {r : Runner} → Reached r → Sound r
unfolding new_runner call
sound fresh = dropped_sound _ (λ q. absurd (false≢true q))
sound (then {r = r} h c) = outcome_sound (check c (standing_of r)) c r refl (sound h)
