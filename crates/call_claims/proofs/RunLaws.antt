-- The claims about runs and refusals, from the laws of a run and of the calls that only run boxes.
-- Assumes nothing.
use Rattle.std.specs.Prelude.{◌≢◌, Ok, Err, Result, ⊤}
use Rattle.block.specs.declared.Refusal.{Refusal}
use Prim.Native.Nat.{ℕ, ◌+◌, ◌-◌, ◌≤◌}
use mathlib.Core.Path.{◌≡◌, refl, ap, sym, ◌∙◌, subst}
use mathlib.Core.List.{List}
use mathlib.Core.Bool.{Bool, true, false, cond, false≢true}
use native.Mathlib.Nat.{zero-add, add_comm}
use native.Mathlib.Omega.{arith}
use Rattle.decode.specs.Decode.{Box}
use Rattle.marks.specs.Marks.{Mode, bare, surveillance, high_water, mode_of, hides}
use Rattle.machine.specs.Run.{Run, Ending, Progress, going, over, run}
use Rattle.runs.proofs.Disclosed.{disclosed_by, disclosed_all}
use Rattle.begin.specs.Begin.{effective}
use Rattle.begin.proofs.Begins.{effective_positive}
use Rattle.calls.specs.Calls.{Call, load, begin, advance, answer, abandon, write_back, rewrite, check}
use Rattle.runner.specs.declared.State.TheVariants.{Running}
use Rattle.runner.specs.declared.Runner.{Runner}
use Rattle.runner.proofs.States.{runs_in, number_back}
use Rattle.runner.specs.State.{chart_in, flowchart_in, is_running, least_in, standing_of, run_in, flow_in, ran, resumed, mode_held}
use Rattle.runs.specs.Whole.{finish, whole}
use Rattle.runner.specs.Outcomes.{Reply, running, ended, refused, Outcome, lent, progress_reply, says, outcome_by, call}
use Rattle.call_claims.specs.Lists.{Accepted, final}
use Rattle.call_claims.specs.Runs.{RefusalChangesNothing, NotHighWater, AdvancesJoin, CountsBoxes, LimitEnds, OneAdvanceEnds, TellsWholeRun, steps_told, WithinLimit, Cleared}
use Rattle.run_claims.proofs.Branches.{clash}
use Rattle.call_claims.proofs.Accepting.{progress_by}
use Rattle.run_claims.proofs.Counting.{After, ended_within, counted_below, run_after, Over, run_ends}
use Rattle.call_claims.proofs.Continuing.{over_answers, over_tells, answered_over, ran_over, ran_still, advanced, advance_does, advance_accepts, Replied, did, holds, came, ended_so, put, turned, from_start, final_from, replied_from}
use Rattle.call_claims.proofs.Reachable.{sound}
use Rattle.call_claims.proofs.Secrecy.{begin_starts, started}

-- A call that is not refused tells no refusal.
not_refused : (c : Call) (r : Runner) (number detail : ℕ) → says c r ≡ refused number detail → ⊥
unfolding says
not_refused (load f) r n d e = clash cc
not_refused (begin m i a l) r n d e = clash cc
not_refused (advance m) r n d e =
    progress_by (λ x. x ≡ refused n d → ⊥) (λ s z. clash cc) (λ s z. clash cc) (mode_held r) (ran m r) e
not_refused answer r n d e = clash cc
not_refused abandon r n d e = clash cc
not_refused (write_back b) r n d e = clash cc
not_refused rewrite r n d e = clash cc

pub refusal_changes_nothing : RefusalChangesNothing
unfolding call outcome_by
refusal_changes_nothing c r n d e = on (check c (standing_of r)) e
  where
    on : (v : Result ⊤ Refusal) → (outcome_by v c r).told.reply ≡ refused n d → ((outcome_by v c r).told.buffer ≡ lent c) × ((outcome_by v c r).next ≡ r)
    on (Ok _) q = absurd (not_refused c r n d q)
    on (Err x) q = (refl, refl)

-- Where the mode is not high-water no count is hidden, and an advance may be by any amount.
not_hidden : (m : Mode) → (m ≡ high_water → ⊥) → hides m ≡ false
not_hidden bare n = refl
not_hidden surveillance n = refl
not_hidden high_water n = absurd (n refl)

any_amount : (r : Runner) → mode_held r ≢ high_water → (m : ℕ) → least_in r ≤ m
any_amount r n m = rw (not_hidden (mode_held r) n) (omega arith)

-- An advance of a run under way, by enough.
pub first_advance : (m : ℕ) (r : Runner) (on : r.state ≡ Running) → least_in r ≤ m → call (advance m) r ≡ advanced r on (ran m r)
first_advance m r on enough =
    let here = from_start r on refl in
    let runs : is_running (resumed (ran 0 r) r) ≡ true = ap is_running (sym here) ∙ rw on in
    ap (call (advance m)) here
    ∙ advance_does r on m 0 (advance_accepts r on m 0 runs enough)
    ∙ ap (λ (k : ℕ). advanced r on (ran k r)) (zero-add m)

advance_refused : (m : ℕ) (r : Runner) → is_running r ≡ false → (call (advance m) r).next ≡ r
unfolding call check outcome_by
advance_refused m r e = rw e

pub advances_join : AdvancesJoin
advances_join r m p (n, e) = by (is_running r) refl
  where
    by : (b : Bool) → is_running r ≡ b → call (advance p) (call (advance m) r).next ≡ call (advance (m + p)) r
    by true q =
        let on : r.state ≡ Running = runs_in _ q in
        let unhidden : mode_held r ≢ high_water = λ z. n (number_back r.mode ∙ z) in
        let first : (call (advance m) r).next ≡ resumed (ran m r) r = ap (λ (o : Outcome). o.next) (first_advance m r on (any_amount r unhidden m)) in
        let runs : is_running (resumed (ran m r) r) ≡ true = subst (λ (x : Runner). is_running x ≡ true) first e in
        ap (call (advance p)) first
        ∙ advance_does r on p m (advance_accepts r on p m runs (any_amount r unhidden p))
        ∙ sym (first_advance (m + p) r on (any_amount r unhidden (m + p)))
    by false q = absurd (false≢true (sym q ∙ ap is_running (sym (advance_refused m r q)) ∙ e))

-- A run from its begin.
module _ (r : Runner) (mode : ℕ) (inputs : List ℕ) (allowed limit : ℕ) (a : Accepted (begin mode inputs allowed limit) r) where
  abbrev pub start : Runner
  start = started mode inputs allowed (effective limit) (chart_in r)

  pub begun_is : (call (begin mode inputs allowed limit) r).next ≡ start
  begun_is = begin_starts mode inputs allowed limit r a

  pub begun_runs : is_running (call (begin mode inputs allowed limit) r).next ≡ true
  begun_runs = ap is_running begun_is

  abbrev inside : ℕ → Progress
  inside m = run (flow_in r) m (going (run_in start))

  from_here : (m : ℕ) → After (flow_in r) m (run_in start) (inside m)
  from_here m = run_after (flow_in r) m (run_in start) (effective_positive limit)

  -- Boxes that reach the limit end it.
  pub reaches : (m : ℕ) → effective limit ≤ m → Over (ran m start)
  reaches m enough = ran_over start refl m (run_ends (flow_in r) m (run_in start) (effective_positive limit) (omega arith))

  least_fits : (m : ℕ) → effective limit ≤ m → least_in start ≤ m
  least_fits m enough = on (hides (mode_of mode))
    where
      on : (b : Bool) → cond b (effective limit) 0 ≤ m
      on true = enough
      on false = omega arith

  -- Where no count is hidden, an advance tells what the run comes to.
  module _ (n : NotHighWater mode) where
    unhidden : hides (mode_of mode) ≡ false
    unhidden = not_hidden (mode_of mode) n

    advance_start : (m : ℕ) → call (advance m) start ≡ advanced start refl (inside m)
    advance_start m =
        first_advance m start refl (any_amount start n m) ∙ ap (λ (p : Progress). advanced start refl p) (disclosed_all (mode_of mode) unhidden (inside m))

    reply_start : (m : ℕ) → (call (advance m) start).told.reply ≡ progress_reply (mode_of mode) (inside m)
    reply_start m = ap (λ (o : Outcome). o.told.reply) (advance_start m)

    over_reply : (e : Ending) (steps : ℕ) → progress_reply (mode_of mode) (over e steps) ≡ ended steps
    unfolding progress_reply
    over_reply e steps = rw unhidden

    counts_running : (m s : ℕ) → (call (advance m) start).told.reply ≡ running s → s ≡ m
    unfolding progress_reply
    counts_running m s e = by (from_here m) (sym (reply_start m) ∙ e)
      where
        by : {p : Progress} → After (flow_in r) m (run_in start) p → progress_reply (mode_of mode) p ≡ running s → s ≡ m
        by (ended_within i c) z = clash cc
        by (counted_below {next = next} c b f) z =
            let v : next.steps ≡ s = steps_once z in
            omega arith
          where
            steps_once : {x y : ℕ} → running x ≡ running y → x ≡ y
            steps_once w = cc

    counts_ended : (m s : ℕ) → (call (advance m) start).told.reply ≡ ended s
        → (1 ≤ s) × (s ≤ m) × ((call (advance (s - 1)) start).told.reply ≡ running (s - 1)) × (call (advance s) start ≡ call (advance m) start)
    unfolding progress_reply
    counts_ended m s e = by (from_here m) refl (sym (reply_start m) ∙ e)
      where
        by : {p : Progress} → After (flow_in r) m (run_in start) p → inside m ≡ p → progress_reply (mode_of mode) p ≡ ended s
            → (1 ≤ s) × (s ≤ m) × ((call (advance (s - 1)) start).told.reply ≡ running (s - 1)) × (call (advance s) start ≡ call (advance m) start)
        by (ended_within {e = k} {steps = steps} i c) there z =
            let v : steps ≡ s = steps_once (sym (over_reply k steps) ∙ z) in
            let few = i.few in
            let count = i.count in
            let counted = i.counted in
            let all : s ≡ i.boxes + 1 = omega arith in
            let less : s - 1 ≡ i.boxes = omega arith in
            let before : i.before.steps ≡ i.boxes = omega arith in (
              omega arith,
              omega arith,
              rw less (reply_start i.boxes ∙ ap (progress_reply (mode_of mode)) i.comes ∙ ap running before),
              advance_start s
                  ∙ ap (λ (n : ℕ). advanced start refl (inside n)) all
                  ∙ ap (λ (p : Progress). advanced start refl p) (i.last ∙ sym there)
                  ∙ sym (advance_start m),
            )
          where
            steps_once : {x y : ℕ} → ended x ≡ ended y → x ≡ y
            steps_once w = cc
        by (counted_below c b f) there z = clash cc

  -- However many boxes it takes, the ending is that of the whole run.
  whole_is : (n : ℕ) (e : Ending) (steps : ℕ) → ran n start ≡ over e steps
      → whole (flowchart_in r) (mode_of mode) inputs allowed (effective limit) ≡ record { ending = e; steps = steps }
  unfolding whole finish
  whole_is n e steps is =
      let l = effective limit in
      let o = reaches l (omega arith) in
      let first = ran_still start refl n l o.ending o.steps o.is in
      let second = ran_still start refl l n e steps is in
      ap finish (o.is ∙ sym first ∙ ap (λ (k : ℕ). ran k start) (add_comm l n) ∙ second)

pub counts_boxes : CountsBoxes
counts_boxes r mode inputs allowed limit a n m s =
    let b = begun_is r mode inputs allowed limit a in (
      (λ e. counts_running r mode inputs allowed limit a n m s (ap (λ (x : Runner). (call (advance m) x).told.reply) (sym b) ∙ e)),
      (λ e. rw b (counts_ended r mode inputs allowed limit a n m s (ap (λ (x : Runner). (call (advance m) x).told.reply) (sym b) ∙ e))),
    )

-- A runner whose run is over answers.
pub over_ends : (r : Runner) (on : r.state ≡ Running) {next : Runner} (p : Progress) → next ≡ resumed p r → Over p → Accepted answer next
over_ends r on p is o = subst (Accepted answer) (sym (is ∙ ap (λ (x : Progress). resumed x r) o.is)) (over_answers r on o.ending o.steps)

pub limit_ends : LimitEnds
limit_ends r mode inputs allowed limit a cs q n enough =
    let s = start r mode inputs allowed limit a in
    let last = final_from s refl (begun_is r mode inputs allowed limit a) cs q in
    let all = last.all (not_hidden (mode_of mode) n) in
    over_ends s refl (ran last.boxes s) last.is (reaches r mode inputs allowed limit a last.boxes (omega arith))

pub one_advance_ends : OneAdvanceEnds
unfolding final
one_advance_ends r mode inputs allowed limit a m enough =
    let s = start r mode inputs allowed limit a in
    let does = ap (call (advance m)) (begun_is r mode inputs allowed limit a) ∙ first_advance m s refl (least_fits r mode inputs allowed limit a m enough) in
    over_ends s refl (ran m s) (ap (λ (o : Outcome). o.next) does) (reaches r mode inputs allowed limit a m enough)

pub tells_whole_run : TellsWholeRun
tells_whole_run r mode inputs allowed limit a cs q ends =
    let s = start r mode inputs allowed limit a in
    let last = final_from s refl (begun_is r mode inputs allowed limit a) cs q in
    let o = answered_over s refl (ran last.boxes s) (subst (Accepted answer) last.is ends) in
    let all = whole_is r mode inputs allowed limit a last.boxes o.ending o.steps o.is in
    ap (λ (x : Runner). (call answer x).told) (last.is ∙ ap (λ (p : Progress). resumed p s) o.is) ∙ over_tells s refl o.ending o.steps ∙ rw all

-- The steps of what a run comes to stay within its limit, and so do those told of what is disclosed
-- of it.
steps_of : Progress → ℕ
steps_of (going q) = q.steps
steps_of (over e steps) = steps

after_within : (flow : ℕ → Box) (m : ℕ) (q : Run) {p : Progress} → After flow m q p → steps_of p ≤ q.limit
unfolding steps_of
after_within flow m q (ended_within i c) = c
after_within flow m q (counted_below c b f) = omega arith

progress_within : (m : Mode) (p : Progress) (limit : ℕ) → steps_of p ≤ limit → steps_told (progress_reply m p) ≤ limit
unfolding progress_reply steps_of
progress_within m (going q) limit h = h
progress_within m (over e steps) limit h = on (hides m)
  where
    on : (b : Bool) → cond b 0 steps ≤ limit
    on true = omega arith
    on false = h

pub within_limit : WithinLimit
unfolding steps_of
within_limit r mode inputs allowed limit a cs q t m = by (replied_from s refl (begun_is r mode inputs allowed limit a) cs q t m)
  where
    s : Runner
    s = start r mode inputs allowed limit a

    within : (n : ℕ) → steps_of (ran n s) ≤ effective limit
    within n =
        disclosed_by (λ (p : Progress). steps_of p ≤ effective limit) (mode_of mode) (run (flow_in r) n (going (run_in s)))
        (after_within (flow_in r) n (run_in s) (from_here r mode inputs allowed limit a n)) (λ h. omega arith)

    by : {x : Reply} → Replied s refl x → steps_told x ≤ effective limit
    by did = omega arith
    by holds = omega arith
    by (came n l) = progress_within (mode_of mode) (ran n s) (effective limit) (within n)
    by (ended_so n d) = subst (λ (p : Progress). steps_of p ≤ effective limit) d (within n)
    by put = omega arith
    by turned = omega arith

pub cleared : Cleared
cleared r g = ((sound g).rests, λ e. ((sound g).ends e).3)
