-- The claims at their exact bounds, each from the theorems of its claims. Besides: a begun run is
-- under way (`begun_runs`), what a limit means is not 0 (`effective_positive`), a number in range
-- is not the first one out of it (`header_bounds`, `box_bounds`), and laws of lists and of truth
-- values. Assumes nothing.
use Prim.Native.Nat.{ℕ, ◌+◌, ◌-◌}
use mathlib.Core.Path.{◌≡◌, ap, sym, ◌∙◌}
use mathlib.Core.List.{List, [], ◌∷◌, ◌++◌, append-nil}
use mathlib.Core.Bool.{true≢false}
use native.Mathlib.Omega.{arith}
use lib.ListN.{length, drop}
use lib.Seq.{drop-length}
use Rattle.boxes.proofs.Bools.{never_true}
use Rattle.chart_claims.proofs.Bounds.{header_bounds, box_bounds}
use Rattle.begin.specs.Begin.{effective}
use Rattle.begin.proofs.Begins.{effective_positive}
use Rattle.calls.specs.Calls.{advance}
use Rattle.runner.specs.Outcomes.{wrote, Outcome}
use Rattle.call_claims.specs.Lists.{final, asked}
use Rattle.call_claims.specs.Bounds.{AnswersAtTheLimit, RunsWithinBounds, WrittenIntoExactRoom, HeldWithinBounds, StatesWithinBounds, NamesWithinBounds}
use Rattle.call_claims.proofs.Demand3.{demand3}
use Rattle.call_claims.proofs.RunLaws.{begun_runs, counts_boxes, limit_ends, one_advance_ends, within_limit}
use Rattle.call_claims.proofs.ChartLaws.{held_obeys, runs_in_range, ends_in_range, loaded_is_written}
use Rattle.call_claims.proofs.Naming.{names_withheld}
use Rattle.call_claims.proofs.HighWater.{high_water_ends}

pub answers_at_the_limit : AnswersAtTheLimit
unfolding final asked
answers_at_the_limit r r' inputs allowed limit limit' b v steps w =
    let d = demand3.1 r r' b.made b.made' b.one_chart inputs allowed limit limit' b.accepted b.accepted' b.limits v steps w (advance _ ∷ []) (tt, tt) in
    d.1 (d.0 (omega arith))

pub runs_within_bounds : RunsWithinBounds
unfolding final asked
runs_within_bounds r mode inputs allowed limit a =
    record {
      within = λ cs q t m. let w = within_limit r mode inputs allowed limit a cs q t m in omega arith;
      ends = one_advance_ends r mode inputs allowed limit a (effective limit) (omega arith);
      less =
          λ two.
          let some = effective_positive limit in
          let on = begun_runs r mode inputs allowed limit a in
          ap (λ (o : Outcome). o.told.reply) ((high_water_ends r mode inputs allowed limit a [] tt two on (effective limit - 1)).less (omega arith));
      sum =
          λ n.
          let some = effective_positive limit in
          limit_ends r mode inputs allowed limit a (advance (effective limit - 1) ∷ advance 1 ∷ []) (tt, (tt, tt)) n (omega arith);
      some = λ n m e. let s = ((counts_boxes r mode inputs allowed limit a n m 0).1 e).0 in omega arith;
      few = λ n m e. let s = ((counts_boxes r mode inputs allowed limit a n m (m + 1)).1 e).1 in omega arith;
    }

pub written_into_exact_room : WrittenIntoExactRoom
written_into_exact_room r file buffer cs a n long =
    let rest : drop (length file) buffer ≡ [] = ap (λ (k : ℕ). drop k buffer) (sym long) ∙ drop-length buffer in
    loaded_is_written r file buffer cs a n (omega arith)
    ∙ ap (λ (x : List ℕ). record { reply = wrote (length file); buffer = file ++ x }) rest
    ∙ ap (λ (x : List ℕ). record { reply = wrote (length file); buffer = x }) (append-nil file)

pub held_within_bounds : HeldWithinBounds
held_within_bounds r g h =
    let o = held_obeys r g h in
    record {
      header = header_bounds o.header;
      formed = λ p l. o.formed p (omega arith);
      ranged = λ p l. box_bounds (o.ranged p (omega arith));
      zero = o.zero r.header.boxes (omega arith);
    }

pub states_within_bounds : StatesWithinBounds
states_within_bounds = (
  (λ r g e.
      let way = runs_in_range r g e in
      let u = way.ranged in
      record {
        at = omega arith;
        mode = omega arith;
        below = omega arith;
        limit = omega arith;
        sets = λ v. let s = way.sets.marks v in omega arith;
        counter = let s = way.sets.counter in omega arith;
      }),
  (λ r g e. let s = ends_in_range r g e in (omega arith, omega arith)),
)

pub names_within_bounds : NamesWithinBounds
names_within_bounds r mode inputs allowed limit a cs q t m =
    let only = names_withheld r mode inputs allowed limit a cs q t m in (
      never_true _ (λ e. let s = only r.header.inputs e in omega arith),
      (λ j y. never_true _ (λ e. true≢false (sym y ∙ (only j e).1))),
    )
