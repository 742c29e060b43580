-- Each box does what was computed of it; where the loop is left, no box is left, or a halt has
-- given a value, or a decision or a halt a notice.
use Prim.Native.Nat.{◌+◌, ◌-◌, ◌%◌}
use mathlib.Core.Path.{◌≡◌, refl, ap, sym, ◌∙◌}
use native.Mathlib.Omega.{arith}
use lib.ListN.{set}
use Rattle.decode.proofs.Decoded.{half_finds, first_half_finds}
use Rattle.machine.specs.Run.{settle}
use Rattle.runner.specs.declared.Ending.TheVariants.{Value, Notice}
use Rattle.std.specs.Prelude.{Option}
use Rattle.calls.specs.Calls.{advance, by_verdict, check}
use Rattle.runner.specs.Outcomes.{turned_away}
use Rattle.runner.specs.Replies.{told_of}
use Rattle.runner.specs.declared.Ending.{Ending}
use Rattle.runner.specs.declared.Runner.{Runner}
use Rattle.runner.specs.State.{dropped, kept, run_in, flow_in}
use Rattle.runner.proofs.Boxes.{placed, stored_more, acts, stays_sixteen, steps_fit, limit_fits, marks_sixteen, CameTo, came_as, allotted, to_go, reached_first, came_over, reached_next, ends_with, advance_came, with_answer, none_or_some, some_once}
use Rattle.runner.proofs.Runner.advance.Goals as goal
use Rattle.runner.proofs.Runner.advance.Goals.{else-loop-left-test, then-loop-left-test+in-Value, then-loop-left-test+in-Notice, in-None, in-Some}

pub loop-left-init : goal.loop-left-init
loop-left-init c =
    let r = c.args.self in (
      c.amount-asked.result,
      r.steps,
      reached_first _ _ _ r _ _ (allotted _ _ _ _ c.allot-portion.ensures) (steps_fit r c.well_formed.0),
      (let is = c.from.ensures in omega arith),
      refl,
      omega arith,
      refl,
      refl,
      refl,
      c.masks_of-masks.ensures,
      first_half_finds _ _ c.first_half-half.ensures,
      marks_sixteen r c.well_formed.0,
    )

pub loop-left-preserved-in-Store : goal.loop-left-preserved-in-Store
unfolding settle
loop-left-preserved-in-Store c =
    let r = c.args.self in
    let l = c.loop-left in
    let taken = c.loop-left-test.true in
    let reach : l.invariant.1 + l.left ≡ r.steps + c.allot-portion.result.boxes = omega (arith, l.invariant.3, c.from.ensures) in
    let portion = allotted c.amount-asked.result r.limit r.steps c.allot-portion.result c.allot-portion.ensures in
    let more = to_go _ _ _ _ _ l.invariant.0 l.left portion l.invariant.4 taken in
    let d = c.in-Store in
    let vars = set l.self.vars (d.target % 32) d.v in
    let marks = set l.self.marks (d.target % 32) d.mark in
    let stored = stored_more r l.self _ vars marks l.self.counter l.invariant.6 refl in (
      l.invariant.0 - 1,
      l.invariant.1 + 1,
      reached_next _ _ l.invariant.0 _ _ (l.invariant.2.0 taken) more _ _ _ _ l.left (placed l.self vars marks l.self.counter) d.next portion (limit_fits r c.well_formed.0) (ap (λ (x : Runner). x.limit) stored) taken l.invariant.5 reach l.invariant.4
          (acts l.self r _ _ _ l.at l.half l.invariant.1 c.box_at-b.result c.run_box-done.result l.invariant.6 l.invariant.11 (ap (λ (x : Runner). x.header.edition) l.invariant.6) l.invariant.7 l.invariant.9 l.invariant.10 c.box_at-b.ensures c.run_box-done.ensures _ c.in-Store.is),
      omega (arith, taken, l.invariant.3),
      omega (arith, taken, l.invariant.4),
      omega (arith, l.invariant.5),
      stored,
      l.invariant.7,
      l.invariant.8,
      l.invariant.9,
      half_finds _ _ c.half_of-half.ensures,
      stays_sixteen l.self _ _ _ _ l.invariant.11 l.invariant.9 c.run_box-done.ensures _ _ _ _ c.in-Store.is,
    )

pub loop-left-preserved : goal.loop-left-preserved
unfolding settle
loop-left-preserved c =
    let r = c.args.self in
    let l = c.loop-left in
    let taken = c.loop-left-test.true in
    let reach : l.invariant.1 + l.left ≡ r.steps + c.allot-portion.result.boxes = omega (arith, l.invariant.3, c.from.ensures) in
    let portion = allotted c.amount-asked.result r.limit r.steps c.allot-portion.result c.allot-portion.ensures in
    let more = to_go _ _ _ _ _ l.invariant.0 l.left portion l.invariant.4 taken in
    let d = c.in-Go in
    let stored = stored_more r l.self _ l.self.vars l.self.marks d.counter l.invariant.6 refl in (
      l.invariant.0 - 1,
      l.invariant.1 + 1,
      reached_next _ _ l.invariant.0 _ _ (l.invariant.2.0 taken) more _ _ _ _ l.left (placed l.self l.self.vars l.self.marks d.counter) d.next portion (limit_fits r c.well_formed.0) (ap (λ (x : Runner). x.limit) stored) taken l.invariant.5 reach l.invariant.4
          (acts l.self r _ _ _ l.at l.half l.invariant.1 c.box_at-b.result c.run_box-done.result l.invariant.6 l.invariant.11 (ap (λ (x : Runner). x.header.edition) l.invariant.6) l.invariant.7 l.invariant.9 l.invariant.10 c.box_at-b.ensures c.run_box-done.ensures _ c.in-Go.is),
      omega (arith, taken, l.invariant.3),
      omega (arith, taken, l.invariant.4),
      omega (arith, l.invariant.5),
      stored,
      l.invariant.7,
      l.invariant.8,
      l.invariant.9,
      half_finds _ _ c.half_of-half-in-Go.ensures,
      l.invariant.11,
    )

pub returns : goal.returns
unfolding settle dropped
returns c =
    let r = c.args.self in
    let l = c.loop-left in
    let q = c.loop-left-test in
    let portion = allotted c.amount-asked.result r.limit r.steps c.allot-portion.result c.allot-portion.ensures in
    let came : CameTo (flow_in r) c.amount-asked.result (run_in r) l.self l.at q.end (c.from.result + c.allot-portion.result.boxes - q.left) =
    elim q.branch [
      | else-loop-left-test w ↦ came_as _ _ _ l.self l.at (w.end-is ∙ l.invariant.8) (omega (arith, w.left-is, w.loop-left-test.false, l.invariant.3)) (l.invariant.2.1 w.loop-left-test.false)
      | then-loop-left-test+in-Value w ↦ came_over _ _ l.invariant.0 _ _ (l.invariant.2.0 w.loop-left-test.true) (to_go _ _ _ _ _ l.invariant.0 l.left portion l.invariant.4 w.loop-left-test.true) (Value _) l.self l.at q.end _
          (acts l.self r _ _ _ l.at l.half l.invariant.1 w.box_at-b.result w.run_box-done.result l.invariant.6 l.invariant.11 (ap (λ (x : Runner). x.header.edition) l.invariant.6) l.invariant.7 l.invariant.9 l.invariant.10 w.box_at-b.ensures w.run_box-done.ensures _ w.in-Value.is)
          w.end-is (omega (arith, w.left-is, w.loop-left-test.true, l.invariant.3))
      | then-loop-left-test+in-Notice w ↦ came_over _ _ l.invariant.0 _ _ (l.invariant.2.0 w.loop-left-test.true) (to_go _ _ _ _ _ l.invariant.0 l.left portion l.invariant.4 w.loop-left-test.true) (Notice _) l.self l.at q.end _
          (acts l.self r _ _ _ l.at l.half l.invariant.1 w.box_at-b.result w.run_box-done.result l.invariant.6 l.invariant.11 (ap (λ (x : Runner). x.header.edition) l.invariant.6) l.invariant.7 l.invariant.9 l.invariant.10 w.box_at-b.ensures w.run_box-done.ensures _ w.in-Notice.is)
          w.end-is (omega (arith, w.left-is, w.loop-left-test.true, l.invariant.3))
    ] in
    let same : c.match-end.end ≡ q.end = elim c.match-end.branch [ in-None w ↦ w.end-is | in-Some w ↦ w.end-is ∙ sym w.in-Some.is ] in
    advance_came _ _ r l.self c.match-end.self _ _ _ _ l.invariant.6 came
    (λ e. elim c.match-end.branch [ in-None w ↦ w.self-is | in-Some w ↦ none_or_some (sym e ∙ w.in-Some.is) ])
    c.hides-hidden.result c.hides-hidden.ensures
    (λ e d. elim c.match-end.branch [
      | in-None w ↦ none_or_some (sym w.in-None.is ∙ d)
      | in-Some w ↦ w.self-is
          ∙ ap (with_answer w.disclose.result) w.drop_run.ensures
          ∙ ap (ends_with l.self) (w.disclose.ensures ∙ ap (λ (k : Ending). kept c.hides-hidden.result k _) (some_once (sym w.in-Some.is ∙ d)))
    ])
    c.check_advance-verdict.result (c.check_advance-verdict.ensures ∙ ap (check (advance _)) c.standing.ensures) c.amount-asked.ensures
    (c.tell.ensures ∙ ap (λ (e : Option Ending). by_verdict c.check_advance-verdict.result (told_of e c.hides-hidden.result (c.from.result + c.allot-portion.result.boxes - q.left)) turned_away) same)
