-- Unwinding of the calls for the modes that guard, from that of runs. Two runners are low-equal
-- when they are the same, or both have runs under way that are low-equal. An advance of a
-- high-water run ends it and hides how it was lost, so every call keeps low-equal runners so and
-- tells the same (output consistency); then one induction over the list. Assumes nothing.
use Rattle.std.specs.Prelude.{Ok, Err, Result, ⊤}
use Rattle.block.specs.declared.Refusal.{Refusal}
use Prim.Native.Nat.{ℕ, ◌≤◌, ◌<◌}
use mathlib.Core.Path.{◌≡◌, refl, ap, sym, ◌∙◌, subst}
use mathlib.Core.List.{List, [], ◌∷◌}
use mathlib.Core.Bool.{true, false≢true}
use native.Mathlib.Omega.{arith}
use Rattle.chart.specs.WriteBack.{with_file}
use Rattle.marks.specs.Marks.{Mode, surveillance, hides}
use Rattle.machine.specs.Run.{Run, Progress, going, over, run}
use Rattle.machine.proofs.Runs.{AsBegun, run_as_begun}
use Rattle.runs.specs.Whole.{disclosed}
use Rattle.runs.proofs.Disclosed.{disclosed_by}
use Rattle.run_claims.proofs.Branches.{clash}
use Rattle.run_claims.proofs.Counting.{Over, run_ends}
use Rattle.run_claims.proofs.Lost.{lost_hidden}
use Rattle.run_claims.proofs.Low.{Agree, with_vars, Watched, surveyed, unmarked, Low, same_run, runs_apart, both_lost, run_low}
use Rattle.calls.specs.Calls.{Call, load, begin, advance, answer, abandon, write_back, rewrite, check}
use Rattle.calls.proofs.Permits.{advance_enough}
use Rattle.runner.specs.declared.State.TheVariants.{Running}
use Rattle.runner.specs.declared.Runner.{Runner}
use Rattle.runner.specs.State.{least_in, standing_of, run_in, with_run, ended_with, dropped, flow_in, ran, resumed, mode_held}
use Rattle.runner.specs.Outcomes.{Reply, Outcome, Effect, runs, keeps, begins, drops, replaces, effect, after, progress_reply, says, lent_as, outcome_by, call}
use Rattle.call_claims.specs.Lists.{tells}
use Rattle.call_claims.proofs.Accepting.{no_answer, runs_accepted}

-- What is disclosed of low-equal runs, where one that hides its counts is over: the same, or two
-- runs apart under surveillance.
data Close : Progress → Progress → Type 0 where
  close : {p : Progress} → Close p p
  still_apart : {q : Run} (w : List ℕ) → q.mode ≡ surveillance → Agree q.marks q.vars w → Close (going q) (going (with_vars q w))

disclosed_close : {m : Mode} {p p' : Progress} → Low m p p' → (hides m ≡ true → Over p × Over p') → Close (disclosed m p) (disclosed m p')
unfolding disclosed
disclosed_close same_run o = close
disclosed_close (runs_apart w (surveyed m) h) o = still_apart w m h
disclosed_close (runs_apart w (unmarked m c) h) o = let e = (o refl).0.is in clash cc
disclosed_close (both_lost a b) o = rw (lost_hidden a (o refl).0, lost_hidden b (o refl).1) close

-- The runner with other values in its variables, and low-equal runners. Where counts are hidden, a
-- run under way is below its limit.
abbrev pub other_vars : Runner → List ℕ → Runner
other_vars r w = with_run (with_vars (run_in r) w) r

pub data LowEqual : Runner → Runner → Type 0 where
  same : {r : Runner} → LowEqual r r
  apart : {r : Runner} {m : Mode} (w : List ℕ) → r.state ≡ Running → Watched m (mode_held r) r.counter → (hides m ≡ true → r.steps < r.limit) → Agree r.marks r.vars w
      → LowEqual r (other_vars r w)

resumed_low : (r : Runner) (w : List ℕ) → r.state ≡ Running → {p p' : Progress} → AsBegun (run_in r) p → Close p p'
    → LowEqual (resumed p r) (resumed p' (other_vars r w))
unfolding resumed ended_with
resumed_low r w s b (close {p = going q}) = same
resumed_low r w s b (close {p = over e steps}) = same
resumed_low r w s b (still_apart {q = q} w' m h) = apart {r = with_run q r} w' s (surveyed (sym b.0 ∙ m)) (λ z. absurd (false≢true z)) h

-- Output consistency, and each call keeps the relation.
record Alike (o o' : Outcome) : Type 0 where
  told : o.told ≡ o'.told
  next : LowEqual o.next o'.next

progress_close : (k : Mode) {p p' : Progress} → Close p p' → progress_reply k p ≡ progress_reply k p'
unfolding progress_reply
progress_close k close = refl
progress_close k (still_apart w s h) = refl

module _ (r : Runner) (w : List ℕ) (s : r.state ≡ Running) {m : Mode} (g : Watched m (mode_held r) r.counter) (b : hides m ≡ true → r.steps < r.limit)
    (h : Agree r.marks r.vars w) where
  ran_close : (k : ℕ) → check (advance k) (standing_of r) ≡ Ok tt → Close (ran k r) (ran k (other_vars r w))
  ran_close k e = by g (run_low (flow_in r) k (runs_apart {q = run_in r} w g h)) b
    where
      enough : least_in r ≤ k
      enough = (advance_enough k (standing_of r) e).1

      in_mode_lem : {m : Mode} → mode_held r ≡ m
          → Close (disclosed m (run (flow_in r) k (going (run_in r)))) (disclosed m (run (flow_in r) k (going (with_vars (run_in r) w))))
          → Close (ran k r) (ran k (other_vars r w))
      in_mode_lem e c =
          subst (λ (x : Mode). Close (disclosed x (run (flow_in r) k (going (run_in r)))) (disclosed x (run (flow_in r) k (going (with_vars (run_in r) w))))) (sym e) c

      by : {m : Mode} → Watched m (mode_held r) r.counter
          → Low m (run (flow_in r) k (going (run_in r))) (run (flow_in r) k (going (with_vars (run_in r) w)))
          → (hides m ≡ true → r.steps < r.limit)
          → Close (ran k r) (ran k (other_vars r w))
      by (surveyed a) low below = in_mode_lem a (disclosed_close low (λ z. absurd (false≢true z)))
      by (unmarked a c) low below =
          let most : r.limit ≤ k = rw a at enough in
          let under = below refl in
          in_mode_lem a (disclosed_close low (λ z. (run_ends (flow_in r) k (run_in r) under (omega arith), run_ends (flow_in r) k (with_vars (run_in r) w) under (omega arith))))

  says_low : (c : Call) → check c (standing_of r) ≡ Ok tt → says c r ≡ says c (other_vars r w)
  unfolding says
  says_low (load f) e = refl
  says_low (begin k i a l) e = refl
  says_low (advance k) e = progress_close (mode_held r) (ran_close k e)
  says_low answer e = absurd (no_answer r s e)
  says_low abandon e = refl
  says_low (write_back x) e = refl
  says_low rewrite e = refl

  ran_as_begun : (k : ℕ) → AsBegun (run_in r) (ran k r)
  ran_as_begun k = disclosed_by (AsBegun (run_in r)) (mode_held r) (run (flow_in r) k (going (run_in r))) (run_as_begun (flow_in r) k (run_in r)) (λ h. tt)

  after_low : (x : Effect) → ((k : ℕ) → x ≡ runs k → Close (ran k r) (ran k (other_vars r w))) → LowEqual (after x r) (after x (other_vars r w))
  unfolding after dropped
  after_low (runs k) f = resumed_low r w s (ran_as_begun k) (f k refl)
  after_low keeps f = apart w s g b h
  after_low (begins mode start) f = same
  after_low drops f = same
  after_low (replaces by) f = same

  outcome_low : (v : Result ⊤ Refusal) (c : Call) → check c (standing_of r) ≡ v → Alike (outcome_by v c r) (outcome_by v c (other_vars r w))
  unfolding outcome_by
  outcome_low (Err x) c e = record { told = refl; next = apart w s g b h }
  outcome_low (Ok _) c e =
      let buffer = lent_as (with_file r.header r.table) c in
      record { told = ap (λ (x : Reply). record { reply = x; buffer = buffer }) (says_low c e); next = after_low (effect c) (λ k z. ran_close k (runs_accepted c k r z e)) }

call_low : (c : Call) {r r' : Runner} → LowEqual r r' → Alike (call c r) (call c r')
unfolding call
call_low c same = record { told = refl; next = same }
call_low c (apart {r = r} w s g b h) = outcome_low r w s g b h (check c (standing_of r)) c refl

-- What a list of calls tells is the same of low-equal runners.
pub tells_low : (cs : List Call) {r r' : Runner} → LowEqual r r' → tells cs r ≡ tells cs r'
unfolding tells
tells_low [] h = refl
tells_low (c ∷ cs) {r} {r'} h =
    let a : Alike (call c r) (call c r') = call_low c h in
    let t : (call c r).told ≡ (call c r').told = a.told in
    let rest : tells cs (call c r).next ≡ tells cs (call c r').next = tells_low cs a.next in
    cc
