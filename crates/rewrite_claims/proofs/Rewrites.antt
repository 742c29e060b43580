-- What an accepted rewriting leaves, by the definition of the call, and what holds of every
-- reachable runner; and that its bare runs are shorter, from that of whole runs. Assumes nothing.
use Prim.Native.Nat.{ℕ}
use mathlib.Core.Path.{◌≡◌, ap, sym, ◌∙◌, subst}
use mathlib.Core.List.{[]}
use mathlib.Core.Bool.{true}
use native.Mathlib.Omega.{arith}
use lib.ListN.{length, replicate, length-replicate}
use Rattle.boxes.specs.Bytes.{box_of}
use Rattle.format.proofs.Ranges.{in_range_lem}
use Rattle.format.specs.declared.Header.{Header}
use Rattle.chart.specs.WriteBack.{file_length}
use Rattle.rewrite.specs.Rewrite.{replaced_at, rewritten_chart}
use Rattle.chart_claims.proofs.Rewritten.{rewritten_by_places}
use Rattle.marks.specs.Marks.{bare}
use Rattle.calls.specs.Calls.{rewrite}
use Rattle.calls.proofs.Permits.{rewrites_second}
use Rattle.runner.specs.declared.Runner.{Runner}
use Rattle.runner.specs.State.{chart_in, is_held, is_running, is_ended, standing_of, idle, dropped}
use Rattle.runner.specs.Outcomes.{done, Outcome, outcome, says, after, outcome_by, call}
use Rattle.call_claims.specs.Lists.{Reached, then, Accepted}
use Rattle.call_claims.specs.Charts.{Obeys}
use Rattle.call_claims.proofs.Accepting.{call_done}
use Rattle.call_claims.proofs.OneChart.{room_accepts, write_does}
use Rattle.call_claims.proofs.ChartLaws.{held_obeys, written_is_loaded}
use Rattle.rewrite_claims.specs.Rewriting.{WritesItself, Rewrites, RewritesHeld, EndsInFewer, FewerSteps, RewritesWithinBounds}
use Rattle.rewrite_claims.proofs.Flows.{whole_shorter}

module _ (r : Runner) (made : Reached r) (a : Accepted rewrite r) where
  abbrev new : Runner
  new = idle (rewritten_chart (chart_in r))

  does : call rewrite r ≡ outcome done [] new
  unfolding outcome_by says after
  does = call_done rewrite r a

  is : (call rewrite r).next ≡ new
  is = ap (λ (o : Outcome). o.next) does

  held : is_held r ≡ true
  held = (rewrites_second (standing_of r) a).0

  long : length r.table ≡ 2040
  long = (held_obeys r made held).long

  writes_itself : WritesItself new
  unfolding dropped
  writes_itself buffer r' room rests =
      let accepts = room_accepts new buffer held (omega (arith, (in_range_lem r.header held).fits)) in
      let told = ap (λ (o : Outcome). o.told.reply) (write_does new buffer accepts) in
      (file_length r.header, told, written_is_loaded new r' buffer (file_length r.header) (subst Reached is (then made rewrite)) told rests)

  rewrites : Rewrites r
  rewrites =
      let header = ap (λ (x : Runner). x.header) is in
      record {
        told = ap (λ (o : Outcome). o.told) does;
        held = ap is_held is ∙ held;
        rests = (ap is_running is, ap is_ended is);
        header = header;
        places = λ p l. ap (λ (x : Runner). box_of x.table p) is ∙ rewritten_by_places r.table long p l;
        obeys =
            subst (λ (h : Header). Obeys h (call rewrite r).next.table) header (held_obeys (call rewrite r).next (then made rewrite) (ap is_held is ∙ held));
        loads = subst WritesItself (sym is) writes_itself;
      }

pub rewrites_held : RewritesHeld
rewrites_held r made a = rewrites r made a

pub fewer_steps : FewerSteps
fewer_steps r made a inputs allowed limit v steps e =
    subst (EndsInFewer bare (replaced_at r.table) inputs allowed limit v steps) (sym (is r made a))
    (whole_shorter (chart_in r) (long r made a) inputs allowed limit v steps e)

pub rewrites_within_bounds : RewritesWithinBounds
rewrites_within_bounds r r' made a rests =
    let w = rewrites_held r made a in
    let again = w.loads (replicate 2560 0) r' (omega (arith, length-replicate {A = ℕ} 2560 0)) rests in
    (w.places 203 (omega arith), (again.0, again.1, ap (λ (o : Outcome). o.next) again.2))
