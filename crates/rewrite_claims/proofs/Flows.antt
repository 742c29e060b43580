-- The flow of a rewritten table beside that of the old one: of a number that is replaced the old
-- flow decides between two copies, and the new one has the choice between them; of any other number
-- both do the same, at the 204 places and past them, where there is no box. So bare runs are as
-- much shorter as `shorter` says, and so is a whole run. Assumes nothing.
use Prim.Native.Nat.{ℕ, ◌-◌, ◌≤◌, ◌<◌}
use mathlib.Core.Path.{◌≡◌, refl, ap, sym, ◌∙◌}
use mathlib.Core.List.{List}
use mathlib.Core.Bool.{Bool, true, false}
use native.Mathlib.Omega.{arith}
use lib.Dec.{leb}
use lib.ListN.{length}
use borrow.Author.Tests.{leb-true, leb-false}
use Rattle.boxes.specs.Bytes.{at, box_of}
use Rattle.boxes.proofs.Places.{no_box}
use Rattle.chart.specs.Chart.{Chart}
use Rattle.rewrite.specs.Rewrite.{if_true, if_false, is_copy, is_replaced, choice_of, replaced_at, rewritten_box, rewritten, rewritten_chart}
use Rattle.rewrite.proofs.Copies.{is_copy_lem, alike_says, copy_below}
use Rattle.rewrite.proofs.Replaced.{replaced_says, kept_box}
use Rattle.chart_claims.proofs.Rewritten.{rewritten_by_places}
use Rattle.operations.specs.Operation.{read_by, value_of_left, value_of}
use Rattle.decode.specs.Decode.{little_endian, decode, meaning, flow}
use Rattle.decode.proofs.Decoded.{box_here, box_past}
use Rattle.marks.specs.Marks.{bare}
use Rattle.machine.specs.Run.{valued, going, over, run}
use Rattle.runs.proofs.Disclosed.{disclosed_all, finish_valued}
use Rattle.runner.specs.State.{flowchart_of}
use Rattle.runs.specs.Whole.{start_of, finish, whole}
use Rattle.rewrite_claims.specs.Rewriting.{boxes_run}
use Rattle.rewrite_claims.proofs.Shorter.{Copies, Chooses, Becomes, stays, chooses, shorter}

-- What becomes of number p.
abbrev pub BoxBecomes : (edition : ℕ) (table : List ℕ) (p : ℕ) → Type 0
BoxBecomes edition table p = Becomes (flow edition table) (flow edition (rewritten table)) (replaced_at table) p

module _ (edition : ℕ) (table : List ℕ) (long : length table ≡ 2040) where
  copies : (p : ℕ) → is_copy (box_of table p) ≡ true → Copies (at (box_of table p) 1) (at (box_of table p) 3) (at (box_of table p) 5) (flow edition table p)
  unfolding decode meaning read_by value_of value_of_left
  copies p e =
      let b = box_of table p in
      let c = is_copy_lem b e in
      record {
        gives = value_of edition 1 (little_endian (at b 6) (at b 7) (at b 8) (at b 9));
        is = rw (box_here table p (copy_below table long p e), c.0, c.1);
        same = λ v. refl;
      }

  past_becomes : (p : ℕ) → 204 ≤ p → BoxBecomes edition table p
  unfolding is_replaced
  past_becomes p past = stays (ap (is_replaced table) (no_box table p (omega (arith, long)))) (rw (box_past table p past, box_past (rewritten table) p past))

  module _ (p : ℕ) (below : p < 204) where
    old_flow : flow edition table p ≡ meaning edition (decode (box_of table p))
    old_flow = rw (box_here table p below)

    new_flow : (b : List ℕ) → b ≡ rewritten_box table p → flow edition (rewritten table) p ≡ meaning edition (decode b)
    new_flow b e = rw (box_here (rewritten table) p below, rewritten_by_places table long p below, e)

    replaced_chooses : replaced_at table p ≡ true → Chooses (flow edition table) (flow edition (rewritten table)) p
    unfolding decode meaning choice_of rewritten_box
    replaced_chooses e =
        let b = box_of table p in
        let one = if_true table b in
        let other = if_false table b in
        let r = replaced_says table b e in
        let a = alike_says one other r.alike in
        record {
          comparison = at b 2;
          left = at b 3;
          right = at b 4;
          true_next = at b 5;
          false_next = at b 6;
          target = at one 1;
          next = at one 5;
          one = at one 3;
          other = at other 3;
          decision = old_flow ∙ rw r.kind;
          if_true = copies (at b 5) a.first;
          if_false = rw (a.target, a.next) (copies (at b 6) a.second);
          choice = new_flow (choice_of b one other) (rw e);
        }

    place_becomes : BoxBecomes edition table p
    place_becomes = by (replaced_at table p) refl
      where
        by : (b : Bool) → replaced_at table p ≡ b → BoxBecomes edition table p
        by true e = chooses e (replaced_chooses e)
        by false e = stays e (new_flow _ (kept_box table p e) ∙ sym old_flow)

  pub becomes : (p : ℕ) → BoxBecomes edition table p
  becomes p = by (leb 204 p) refl
    where
      by : (b : Bool) → leb 204 p ≡ b → BoxBecomes edition table p
      by true e = past_becomes p (leb-true 204 p e)
      by false e = place_becomes p (leb-false 204 p e)

-- A whole bare run.
pub whole_shorter : (c : Chart) → length c.table ≡ 2040 → (inputs : List ℕ) (allowed limit v steps : ℕ)
    → whole (flowchart_of c) bare inputs allowed limit ≡ record { ending = valued v; steps = steps }
    → let new = flowchart_of (rewritten_chart c) in
    let fewer = boxes_run new.flow (replaced_at c.table) limit (going (start_of new bare inputs allowed limit)) in
    (fewer ≤ steps) × (whole new bare inputs allowed limit ≡ record { ending = valued v; steps = steps - fewer })
unfolding whole finish
whole_shorter c long inputs allowed limit v steps e =
    let start = start_of (flowchart_of c) bare inputs allowed limit in
    let old = run (flowchart_of c).flow limit (going start) in
    let new = (flowchart_of (rewritten_chart c)).flow in
    let ends = finish_valued old v steps (ap finish (sym (disclosed_all bare refl old)) ∙ e) in
    let less = shorter (flowchart_of c).flow new (replaced_at c.table) (becomes c.header.edition c.table long) limit start v steps refl ends in
    let sum = less.2 in
    let count : less.0 ≡ steps - boxes_run new (replaced_at c.table) limit (going start) = omega arith in
    (omega arith, ap finish (disclosed_all bare refl (run new limit (going start)) ∙ less.1 ∙ ap (over (valued v)) count))
