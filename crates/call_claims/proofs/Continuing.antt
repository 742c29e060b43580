-- Lists of advances, answers, write backs and refused calls only run boxes: as many as the advances
-- ask for, or fewer where the run ends or, with counts hidden, an advance is refused. And what each
-- of their calls replies. Assumes nothing.
use Rattle.std.specs.Prelude.{Ok, Err, Result, ⊤}
use Rattle.block.specs.declared.Refusal.{Refusal}
use Prim.Native.Nat.{ℕ, ◌+◌, ◌≤◌, ◌<◌}
use mathlib.Core.Path.{◌≡◌, refl, ap, sym, ◌∙◌, subst}
use mathlib.Core.List.Memᴰ
use mathlib.Core.List.{List, [], ◌∷◌, Memᴰ}
use mathlib.Core.Logic.{⊎_elim}
use mathlib.Core.Bool.{true, false, cond, false≢true}
use native.Mathlib.Omega.{arith}
use lib.Dec.{ltb}
use borrow.Author.Tests.{lt-ltb, le-ltb, ltb-false}
use Rattle.block.specs.Refusing.{refusal}
use Rattle.marks.specs.declared.Mode as code
use Rattle.marks.specs.Marks.{Mode, hides, mode_in}
use Rattle.machine.specs.Run.{Run, Ending, valued, notice, spent, Progress, going, over, run}
use Rattle.runs.specs.Whole.{disclosed}
use Rattle.machine.proofs.Runs.{run_add, over_twice, AsBegun, run_as_begun}
use Rattle.runs.proofs.Disclosed.{disclosed_by}
use Rattle.calls.specs.Calls.{Call, load, begin, advance, answer, abandon, write_back, rewrite, refuse_if, check}
use Rattle.calls.proofs.Permits.{not_done, passed, advance_enough}
use Rattle.runner.specs.declared.State.TheVariants.{Running}
use Rattle.runner.specs.declared.Runner.{Runner}
use Rattle.runner.specs.State.{is_running, is_ended, least_in, standing_of, ending_in, run_in, ended_with, flow_in, ran, resumed, mode_held, total_in}
use Rattle.runner.specs.Outcomes.{Reply, done, chart, ending, wrote, refused, Told, Outcome, Effect, runs, keeps, begins, drops, replaces, effect, after, progress_reply, says, outcome_by, call}
use Rattle.call_claims.specs.Lists.{Accepted, tells, final, OnlyRuns, Continues, AllContinue, amount_of, asked}
use Rattle.run_claims.proofs.Branches.{clash}
use Rattle.call_claims.proofs.Accepting.{call_done, runs_only}
use Rattle.run_claims.proofs.Counting.{Over}

-- Every runner here is r after so many boxes of its run.
module _ (r : Runner) (on : r.state ≡ Running) where
  -- It is what its own run has come to.
  self_resumed : resumed (going (run_in r)) r ≡ r
  unfolding resumed
  self_resumed = refl

  -- An ended run is not under way, and an answer tells it.
  over_rests : (e : Ending) (steps : ℕ) → is_running (resumed (over e steps) r) ≡ false
  unfolding resumed ended_with
  over_rests (valued v) steps = refl
  over_rests (notice named) steps = refl
  over_rests spent steps = refl

  over_ended : (e : Ending) (steps : ℕ) → is_ended (resumed (over e steps) r) ≡ true
  unfolding resumed ended_with
  over_ended (valued v) steps = refl
  over_ended (notice named) steps = refl
  over_ended spent steps = refl

  over_ending : (e : Ending) (steps : ℕ) → ending_in (resumed (over e steps) r) ≡ e
  unfolding resumed ended_with
  over_ending (valued v) steps = refl
  over_ending (notice named) steps = refl
  over_ending spent steps = refl

  total_steps : (e : Ending) (steps : ℕ) → total_in (resumed (over e steps) r) ≡ steps
  unfolding resumed ended_with
  total_steps e steps = refl

  pub over_answers : (e : Ending) (steps : ℕ) → Accepted answer (resumed (over e steps) r)
  unfolding check
  over_answers e steps = rw (over_ended e steps)

  over_says : (e : Ending) (steps : ℕ) → says answer (resumed (over e steps) r) ≡ ending e steps
  unfolding says
  over_says e steps = rw (over_ending e steps, total_steps e steps)

  pub over_tells : (e : Ending) (steps : ℕ) → (call answer (resumed (over e steps) r)).told ≡ record { reply = ending e steps; buffer = [] }
  unfolding outcome_by
  over_tells e steps = ap (λ (o : Outcome). o.told) (call_done answer _ (over_answers e steps)) ∙ rw (over_says e steps)

  going_runs : (q : Run) → is_running (resumed (going q) r) ≡ true
  unfolding resumed
  going_runs q = rw on

  going_does_not_answer : (q : Run) → Accepted answer (resumed (going q) r) → ⊥
  unfolding check resumed
  going_does_not_answer q e = not_done (rw on at e)

  pub answered_over : (p : Progress) → Accepted answer (resumed p r) → Over p
  answered_over (going q) a = absurd (going_does_not_answer q a)
  answered_over (over e steps) a = record { ending = e; steps = steps; is = refl }

  over_does_not_advance : (m : ℕ) (e : Ending) (steps : ℕ) → Accepted (advance m) (resumed (over e steps) r) → ⊥
  unfolding check
  over_does_not_advance m e steps a = not_done {x = refusal 23 0} (rw (over_rests e steps) at a)

  resumed_twice : (q : Run) (p : Progress) → resumed p (resumed (going q) r) ≡ resumed p r
  unfolding resumed ended_with
  resumed_twice q (going x) = refl
  resumed_twice q (over e steps) = refl

  -- A run that goes on, and one that is over, after n boxes and then after m more.
  abbrev mode : Mode
  mode = mode_held r

  abbrev inside : ℕ → Progress
  inside n = run (flow_in r) n (going (run_in r))

  pub ran_over : (n : ℕ) → Over (inside n) → Over (ran n r)
  ran_over n o = disclosed_by Over mode (inside n) o (λ h. record { ending = notice 0; steps = 0; is = refl })

  -- What is disclosed is what the run has come to inside, but where it is what hiding leaves.
  inside_is : (n : ℕ) (p : Progress) → (over (notice 0) 0 ≡ p → ⊥) → ran n r ≡ p → inside n ≡ p
  inside_is n p other e = disclosed_by (λ (x : Progress). x ≡ p → inside n ≡ p) mode (inside n) (λ d. d) (λ h d. absurd (other d)) e

  going_inside : (n : ℕ) (q : Run) → ran n r ≡ going q → inside n ≡ going q
  going_inside n q e = inside_is n (going q) (λ d. clash cc) e

  as_begun : (n : ℕ) (q : Run) → ran n r ≡ going q → (q.mode ≡ mode) × (q.limit ≡ r.limit)
  as_begun n q e = subst (AsBegun (run_in r)) (going_inside n q e) (run_as_begun (flow_in r) n (run_in r))

  pub value_inside : (n v steps : ℕ) → ran n r ≡ over (valued v) steps → inside n ≡ over (valued v) steps
  value_inside n v steps e = inside_is n (over (valued v) steps) (λ d. clash cc) e

  -- The run in a runner that goes on is what it has come to.
  abbrev in_mode : Run → Mode → Run
  in_mode q k = record { vars = q.vars; marks = q.marks; counter = q.counter; mode = k; at = q.at; limit = q.limit; steps = q.steps }

  going_ran : (m : ℕ) (q : Run) → mode ≡ q.mode → ran m (resumed (going q) r) ≡ disclosed mode (run (flow_in r) m (going q))
  unfolding resumed
  going_ran m q e = ap (λ (k : Mode). disclosed mode (run (flow_in r) m (going (in_mode q k)))) e

  ran_further : (m n : ℕ) (q : Run) → ran n r ≡ going q → ran m (resumed (going q) r) ≡ ran (n + m) r
  ran_further m n q e =
      going_ran m q (sym (as_begun n q e).0)
      ∙ ap (λ (p : Progress). disclosed mode (run (flow_in r) m p)) (sym (going_inside n q e))
      ∙ ap (disclosed mode) (sym (run_add (flow_in r) n m (going (run_in r))))

  pub ran_still : (m n : ℕ) (e : Ending) (steps : ℕ) → ran n r ≡ over e steps → ran (n + m) r ≡ over e steps
  unfolding disclosed
  ran_still m n e steps d = by (inside n) refl
    where
      by : (p : Progress) → inside n ≡ p → ran (n + m) r ≡ over e steps
      by (going q) h = let z : going q ≡ over e steps = ap (disclosed mode) (sym h) ∙ d in clash cc
      by (over k steps') h = ap (disclosed mode) (over_twice (flow_in r) _ k n steps' m h ∙ sym h) ∙ d

  -- The least amount by which it may be advanced stays.
  least_stays : (n : ℕ) (q : Run) → ran n r ≡ going q → least_in (resumed (going q) r) ≡ least_in r
  unfolding resumed
  least_stays n q e = ap (λ (l : ℕ). cond (hides mode) l 0) (as_begun n q e).1

  -- An advance that is accepted.
  abbrev pub advanced : Progress → Outcome
  advanced p = record { told = record { reply = progress_reply mode p; buffer = [] }; next = resumed p r }

  going_mode : (q : Run) → (resumed (going q) r).mode ≡ r.mode
  unfolding resumed
  going_mode q = refl

  advanced_going : (m n : ℕ) (q : Run) → ran n r ≡ going q → outcome_by (Ok tt) (advance m) (resumed (going q) r) ≡ advanced (ran (n + m) r)
  unfolding outcome_by says after
  advanced_going m n q e =
      ap (λ (k : code.Mode). record { told = record { reply = progress_reply (mode_in k) (ran m (resumed (going q) r)); buffer = [] }; next = resumed (ran m (resumed (going q) r)) (resumed (going q) r) })
      (going_mode q)
      ∙ ap (λ (p : Progress). record { told = record { reply = progress_reply mode p; buffer = [] }; next = resumed p (resumed (going q) r) }) (ran_further m n q e)
      ∙ ap (λ (x : Runner). record { told = record { reply = progress_reply mode (ran (n + m) r); buffer = [] }; next = x }) (resumed_twice q (ran (n + m) r))

  pub advance_does : (m n : ℕ) → Accepted (advance m) (resumed (ran n r) r) → call (advance m) (resumed (ran n r) r) ≡ advanced (ran (n + m) r)
  advance_does m n a = by (ran n r) refl a
    where
      by : (p : Progress) → ran n r ≡ p → Accepted (advance m) (resumed p r) → call (advance m) (resumed p r) ≡ advanced (ran (n + m) r)
      by (going q) e d = call_done (advance m) (resumed (going q) r) d ∙ advanced_going m n q e
      by (over k steps) e d = absurd (over_does_not_advance m k steps d)

  -- While the run goes on, an advance is refused where it asks for too little, and else accepted.
  advance_checked : (m n : ℕ) → is_running (resumed (ran n r) r) ≡ true
      → check (advance m) (standing_of (resumed (ran n r) r)) ≡ refuse_if (ltb m (least_in r)) 13 (Ok tt)
  unfolding check
  advance_checked m n on = by (ran n r) refl on
    where
      by : (p : Progress) → ran n r ≡ p → is_running (resumed p r) ≡ true → check (advance m) (standing_of (resumed p r)) ≡ refuse_if (ltb m (least_in r)) 13 (Ok tt)
      by (going q) e k = rw (k, least_stays n q e)
      by (over f s) e k = absurd (false≢true (sym (over_rests f s) ∙ k))

  pub advance_accepts : (m n : ℕ) → is_running (resumed (ran n r) r) ≡ true → least_in r ≤ m → Accepted (advance m) (resumed (ran n r) r)
  advance_accepts m n on enough = advance_checked m n on ∙ rw (le-ltb m (least_in r) enough)

  pub advance_less : (m n : ℕ) → is_running (resumed (ran n r) r) ≡ true → m < least_in r
      → call (advance m) (resumed (ran n r) r) ≡ record { told = record { reply = refused 13 0; buffer = [] }; next = resumed (ran n r) r }
  unfolding call outcome_by
  advance_less m n on less = rw (advance_checked m n on, lt-ltb m (least_in r) less) refl

  pub advance_asked : (m n : ℕ) → Accepted (advance m) (resumed (ran n r) r) → least_in r ≤ m
  advance_asked m n a =
      let on = (advance_enough m (standing_of (resumed (ran n r) r)) a).0 in
      ltb-false m (least_in r) (passed (ltb m (least_in r)) 13 (sym (advance_checked m n on) ∙ a)).0

  -- So many boxes lead to a runner: as many as were asked for, where no counts are hidden.
  pub record Ran (wanted : ℕ) (next : Runner) : Type 0 where
    pub boxes : ℕ
    pub all : hides mode ≡ false → boxes ≡ wanted
    pub is : next ≡ resumed (ran boxes r) r

  advance_next : (m n : ℕ) (v : Result ⊤ Refusal) → check (advance m) (standing_of (resumed (ran n r) r)) ≡ v
      → Ran (n + m) (outcome_by v (advance m) (resumed (ran n r) r)).next
  unfolding outcome_by
  advance_next m n (Ok _) e =
      record { boxes = n + m; all = λ h. refl; is = ap (λ (o : Outcome). o.next) (sym (call_done (advance m) _ e) ∙ advance_does m n e) }
  advance_next m n (Err x) e = by (ran n r) refl
    where
      stays : (q : Run) → ran n r ≡ going q → hides mode ≡ false → n ≡ n + m
      stays q d h =
          let on : is_running (resumed (ran n r) r) ≡ true = ap (λ (p : Progress). is_running (resumed p r)) d ∙ going_runs q in
          let any : least_in r ≡ 0 = rw h in
          not_done (sym e ∙ advance_accepts m n on (omega arith))

      by : (p : Progress) → ran n r ≡ p → Ran (n + m) (resumed (ran n r) r)
      by (going q) d = record { boxes = n; all = stays q d; is = refl }
      by (over k steps) d =
          record { boxes = n + m; all = λ h. refl; is = ap (λ (p : Progress). resumed p r) (d ∙ sym (ran_still m n k steps d)) }

  -- A call of the list runs the boxes that it asks for.
  next_runs : (c : Call) (n : ℕ) → Continues c (resumed (ran n r) r) → Ran (n + amount_of (effect c)) (call c (resumed (ran n r) r)).next
  unfolding call outcome_by after
  next_runs c n q = by (effect c) refl q (check c (standing_of (resumed (ran n r) r))) refl
    where
      here : Ran (n + 0) (resumed (ran n r) r)
      here = record { boxes = n; all = λ h. omega arith; is = refl }

      by : (x : Effect) → effect c ≡ x → OnlyRuns x (Accepted c (resumed (ran n r) r) → ⊥) → (v : Result ⊤ Refusal) → check c (standing_of (resumed (ran n r) r)) ≡ v
          → Ran (n + amount_of x) (outcome_by v c (resumed (ran n r) r)).next
      by (runs m) e u v d =
          let is = runs_only c m e in
          subst (λ (k : Call). Ran (n + m) (outcome_by v k (resumed (ran n r) r)).next) (sym is)
          (advance_next m n v (subst (λ (k : Call). check k (standing_of (resumed (ran n r) r)) ≡ v) is d))
      by keeps e u (Ok _) d = subst (λ (x : Effect). Ran (n + 0) (after x (resumed (ran n r) r))) (sym e) here
      by keeps e u (Err x) d = here
      by (begins k start) e u (Ok _) d = absurd (u d)
      by (begins k start) e u (Err x) d = here
      by drops e u (Ok _) d = absurd (u d)
      by drops e u (Err x) d = here
      by (replaces f) e u (Ok _) d = absurd (u d)
      by (replaces f) e u (Err x) d = here

  final_runs : (cs : List Call) (n : ℕ) → AllContinue cs (resumed (ran n r) r) → Ran (n + asked cs) (final cs (resumed (ran n r) r))
  unfolding final asked
  final_runs [] n q = record { boxes = n; all = λ h. omega arith; is = refl }
  final_runs (c ∷ cs) n q =
      let one = next_runs c n q.0 in
      let rest = final_runs cs one.boxes (subst (AllContinue cs) one.is q.1) in
      record {
        boxes = rest.boxes;
        all = λ h. let a = one.all h in let b = rest.all h in omega arith;
        is = ap (final cs) one.is ∙ rest.is;
      }

  -- What a call of the list replies: without steps; what an accepted advance tells of the run; or
  -- the ending that it is over with.
  pub data Replied : Reply → Type 0 where
    did : Replied done
    holds : {inputs boxes : ℕ} → Replied (chart inputs boxes)
    came : (n : ℕ) → least_in r ≤ n → Replied (progress_reply mode (ran n r))
    ended_so : (n : ℕ) {e : Ending} {steps : ℕ} → ran n r ≡ over e steps → Replied (ending e steps)
    put : {bytes : ℕ} → Replied (wrote bytes)
    turned : {number detail : ℕ} → Replied (refused number detail)

  advance_says : (m n : ℕ) → Accepted (advance m) (resumed (ran n r) r) → says (advance m) (resumed (ran n r) r) ≡ progress_reply mode (ran (n + m) r)
  unfolding outcome_by
  advance_says m n a = ap (λ (o : Outcome). o.told.reply) (sym (call_done (advance m) _ a) ∙ advance_does m n a)

  said : (c : Call) (n : ℕ) → Accepted c (resumed (ran n r) r) → Replied (says c (resumed (ran n r) r))
  unfolding says
  said (load f) n a = holds
  said (begin m i w l) n a = did
  said (advance m) n a =
      let least = advance_asked m n a in
      subst Replied (sym (advance_says m n a)) (came (n + m) (omega arith))
  said answer n a = by (ran n r) refl a
    where
      by : (p : Progress) → ran n r ≡ p → Accepted answer (resumed p r) → Replied (says answer (resumed p r))
      by (going q) e d = absurd (going_does_not_answer q d)
      by (over k steps) e d = subst Replied (sym (over_says k steps)) (ended_so n e)
  said abandon n a = did
  said (write_back b) n a = put
  said rewrite n a = did

  told_so : (c : Call) (n : ℕ) → Replied (call c (resumed (ran n r) r)).told.reply
  unfolding call outcome_by
  told_so c n = by (check c (standing_of (resumed (ran n r) r))) refl
    where
      by : (v : Result ⊤ Refusal) → check c (standing_of (resumed (ran n r) r)) ≡ v → Replied (outcome_by v c (resumed (ran n r) r)).told.reply
      by (Ok _) e = said c n e
      by (Err x) e = turned

  all_told : (cs : List Call) (n : ℕ) → AllContinue cs (resumed (ran n r) r) → (t : Told) → Memᴰ t (tells cs (resumed (ran n r) r)) → Replied t.reply
  unfolding tells
  all_told [] n q t m = absurd (Memᴰ.not-nil m)
  all_told (c ∷ cs) n q t m =
      let one = next_runs c n q.0 in
      ⊎_elim
      (λ e. subst (λ (u : Told). Replied u.reply) (sym e) (told_so c n))
      (λ k. all_told cs one.boxes (subst (AllContinue cs) one.is q.1) t (subst (λ (x : Runner). Memᴰ t (tells cs x)) one.is k))
      (Memᴰ.cases_cons m)

  -- A list from a runner that is r.
  module _ {start : Runner} (e : start ≡ r) where
    pub from_start : start ≡ resumed (ran 0 r) r
    unfolding disclosed run
    from_start = e ∙ sym self_resumed

    pub final_from : (cs : List Call) → AllContinue cs start → Ran (asked cs) (final cs start)
    final_from cs q =
        let last = final_runs cs 0 (subst (AllContinue cs) from_start q) in
        record {
          boxes = last.boxes;
          all = λ h. let a = last.all h in omega arith;
          is = ap (final cs) from_start ∙ last.is;
        }

    pub replied_from : (cs : List Call) → AllContinue cs start → (t : Told) → Memᴰ t (tells cs start) → Replied t.reply
    replied_from cs q t m =
        all_told cs 0 (subst (AllContinue cs) from_start q) t (subst (λ (x : Runner). Memᴰ t (tells cs x)) from_start m)
