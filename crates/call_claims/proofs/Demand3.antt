-- Demand 3 whole. The second half: a list that tells a value after the high-water begin comes from
-- a run that is over with it; the surveillance run of the same start keeps pace; and lists of calls
-- that continue a run only run boxes. Assumes nothing.
use Prim.Native.Nat.{ℕ, ◌+◌}
use mathlib.Core.Path.{◌≡◌, refl, ap, sym, ◌∙◌, subst}
use mathlib.Core.List.{List}
use native.Mathlib.Nat.{add_comm}
use native.Mathlib.Omega.{arith}
use Rattle.marks.specs.Marks.{surveillance, high_water}
use Rattle.begin.specs.Begin.{effective}
use Rattle.begin.proofs.Begins.{effective_positive}
use Rattle.machine.specs.Run.{valued, Progress, going, over, run}
use Rattle.machine.proofs.Runs.{over_twice}
use Rattle.runs.specs.Whole.{Flowchart, start_of}
use Rattle.runs.proofs.Disclosed.{disclosed_all}
use Rattle.run_claims.proofs.Counting.{Over, run_ends}
use Rattle.run_claims.proofs.Pace.{run_pace, pace_value, start_pace}
use Rattle.calls.specs.Calls.{answer}
use Rattle.runner.specs.declared.Runner.{Runner}
use Rattle.runner.specs.State.{chart_in, flowchart_in, flow_in, ran, resumed}
use Rattle.runner.specs.Outcomes.{call}
use Rattle.call_claims.specs.Lists.{Accepted}
use Rattle.call_claims.specs.Demand3.{tells_value, AnswersAsHighWater, Demand3}
use Rattle.call_claims.specs.Parameters.{HalvesByParameters}
use Rattle.call_claims.proofs.Continuing.{over_answers, over_tells, answered_over, ran_over, value_inside, final_from}
use Rattle.call_claims.proofs.Answering.{list_tells}
use Rattle.call_claims.proofs.OneChart.{one_chart}
use Rattle.call_claims.proofs.Secrecy.{begin_permits, begin_starts, started, starts_same, guarded_secret, noninterference}

-- A surveillance run that is over has the value that the high-water run came to, whatever the
-- boxes.
surveyed_value : (c : Flowchart) (inputs : List ℕ) (allowed limit n boxes v steps : ℕ)
    → run c.flow boxes (going (start_of c high_water inputs allowed limit)) ≡ over (valued v) steps
    → Over (run c.flow n (going (start_of c surveillance inputs allowed limit)))
    → run c.flow n (going (start_of c surveillance inputs allowed limit)) ≡ over (valued v) steps
surveyed_value c inputs allowed limit n boxes v steps h o =
    let start = going (start_of c surveillance inputs allowed limit) in
    let here : run c.flow (boxes + n) start ≡ over o.ending o.steps =
    ap (λ (k : ℕ). run c.flow k start) (add_comm boxes n) ∙ over_twice c.flow _ o.ending n o.steps boxes o.is in
    let both = pace_value v steps (run_pace c.flow (boxes + n) (start_pace c inputs allowed limit)) (over_twice c.flow _ (valued v) boxes steps n h) in
    o.is ∙ sym here ∙ both

pub answers_as_high_water : AnswersAsHighWater
answers_as_high_water r r' made made' one inputs allowed limit limit' a a' limits v steps w ds qd =
    let p = begin_permits 2 inputs allowed limit r a in
    let p' = begin_permits 1 inputs allowed limit' r' a' in
    let c = one_chart r r' made made' p.held p'.held one in
    let l = effective limit' in
    let high = started 2 inputs allowed l (chart_in r') in
    let begins = begin_starts 2 inputs allowed limit r a ∙ starts_same 2 inputs allowed (effective limit) l c limits in
    let told = list_tells high refl (valued v) steps begins w.0 w.1 (tells_value v steps) w.2 refl in
    let start = started 1 inputs allowed l (chart_in r') in
    let last = final_from start refl (begin_starts 1 inputs allowed limit' r' a') ds qd in
    let n = last.boxes in
    let first = start_of (flowchart_in r') surveillance inputs allowed l in (
      (λ enough.
          let all = last.all refl in
          let o = ran_over start refl n (run_ends (flow_in r') n first (effective_positive limit') (omega arith)) in
          subst (Accepted answer) (sym (last.is ∙ ap (λ (x : Progress). resumed x start) o.is)) (over_answers start refl o.ending o.steps)),
      (λ ends.
          let same = disclosed_all surveillance refl (run (flow_in r') n (going first)) in
          let o = answered_over start refl (ran n start) (subst (Accepted answer) last.is ends) in
          let is = surveyed_value (flowchart_in r') inputs allowed l n told.0 v steps (value_inside high refl told.0 v steps told.1) (subst Over same o) in
          ap (λ (x : Runner). (call answer x).told) (last.is ∙ ap (λ (x : Progress). resumed x start) (same ∙ is)) ∙ over_tells start refl (valued v) steps),
    )

pub demand3 : Demand3
demand3 = (noninterference, answers_as_high_water)

pub halves_by_parameters : HalvesByParameters
halves_by_parameters =
    (guarded_secret, λ r r' inputs allowed limit limit' b. answers_as_high_water r r' b.made b.made' b.one_chart inputs allowed limit limit' b.accepted b.accepted' b.limits)
