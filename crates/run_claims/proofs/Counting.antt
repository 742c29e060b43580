-- How a run counts its boxes: one each, up to an ending or to its limit, which it never passes. The
-- relation is of a run with the boxes that it has taken so far; a box ends it or counts one more.
-- Assumes nothing.
use Prim.Native.Nat.{ℕ, suc, ◌+◌, ◌≤◌, ◌<◌}
use mathlib.Core.Path.{◌≡◌, refl, ap, ◌∙◌}
use mathlib.Core.List.{List}
use native.Mathlib.Numerals.{add-one}
use native.Mathlib.Omega.{arith}
use Rattle.decode.specs.Decode.{Box}
use Rattle.machine.specs.Act.{act}
use Rattle.machine.specs.Run.{Run, Ending, Progress, going, over, moved, goes_on, settle, step, onward, run}
use Rattle.machine.specs.declared.Act.{Act}
use Rattle.machine.specs.declared.Act.TheVariants.{Store, Go, Value, Notice}
use Rattle.machine.proofs.Runs.{lift, run_last, run_none, goes_by}

-- A run that is over.
pub record Over (p : Progress) : Type 0 where
  pub ending : Ending
  pub steps : ℕ
  pub is : p ≡ over ending steps

-- The box at hand ends the run at a count of one more, or is counted below the limit.
pub data Goes (q : Run) : Progress → Type 0 where
  stops : {e : Ending} → Goes q (over e (q.steps + 1))
  counts : {next : Run} → next.steps ≡ q.steps + 1 → next.limit ≡ q.limit → q.steps + 1 < q.limit → Goes q (going next)

goes_on_lem : (q : Run) (vars marks : List ℕ) (counter at : ℕ) → Goes q (goes_on (moved q vars marks counter at))
goes_on_lem q vars marks counter at = goes_by (Goes q) _ stops (λ l. counts refl refl l)

settle_goes : (x : Act) (q : Run) → Goes q (settle x q)
unfolding settle
settle_goes (Store t v m next) q = goes_on_lem q _ _ _ _
settle_goes (Go next counter) q = goes_on_lem q _ _ _ _
settle_goes (Value v) q = stops
settle_goes (Notice named) q = stops

module _ (flow : ℕ → Box) where
  step_goes : (q : Run) → Goes q (step flow q)
  step_goes q = settle_goes (act q.mode (flow q.at) q.vars q.marks q.counter) q

  -- A run that m boxes have ended: all but the last box of it were counted one by one.
  pub record EndedIn (m : ℕ) (q : Run) (e : Ending) (steps : ℕ) : Type 0 where
    pub boxes : ℕ
    pub few : boxes < m
    pub count : steps ≡ q.steps + boxes + 1
    pub last : run flow (boxes + 1) (going q) ≡ over e steps
    pub before : Run
    pub comes : run flow boxes (going q) ≡ going before
    pub counted : before.steps ≡ q.steps + boxes

  -- What m boxes make of a run below its limit: it has ended within the limit, or m boxes more are
  -- counted below it.
  pub data After (m : ℕ) (q : Run) : Progress → Type 0 where
    ended_within : {e : Ending} {steps : ℕ} → EndedIn m q e steps → steps ≤ q.limit → After m q (over e steps)
    counted_below : {next : Run} → next.steps ≡ q.steps + m → next.steps < q.limit → next.limit ≡ q.limit → After m q (going next)

  -- One box more.
  module _ (m : ℕ) (q : Run) where
    box_more : (next : Run) → run flow m (going q) ≡ going next → next.steps ≡ q.steps + m → next.steps < q.limit → next.limit ≡ q.limit
        → (x : Progress) → step flow next ≡ x → Goes next x → After (suc m) q x
    unfolding onward
    box_more next is s b l x d (stops {e = e}) =
        ended_within {steps = next.steps + 1}
        (record {
          boxes = m;
          few = omega arith;
          count = omega arith;
          last = ap (λ (n : ℕ). run flow n (going q)) (add-one m) ∙ run_last flow m (going q) ∙ ap (onward flow) is ∙ d;
          before = next;
          comes = is;
          counted = s;
        })
        (omega arith)
    box_more next is s b l x d (counts {next = after} es el k) = counted_below {next = after} (omega arith) (omega arith) (el ∙ l)

    one_more : (p : Progress) → run flow m (going q) ≡ p → After m q p → After (suc m) q (onward flow p)
    unfolding onward
    one_more p is (ended_within {steps = steps} i c) =
        ended_within {steps = steps}
        (record {
          boxes = i.boxes;
          few = let f = i.few in omega arith;
          count = i.count;
          last = i.last;
          before = i.before;
          comes = i.comes;
          counted = i.counted;
        })
        c
    one_more p is (counted_below {next = next} s b l) = box_more next is s b l (step flow next) refl (step_goes next)

  pub run_after : (m : ℕ) (q : Run) → q.steps < q.limit → After m q (run flow m (going q))
  run_after m q l =
      (lift flow flow (λ k p p'. (run flow k (going q) ≡ p) × After k q p)
      (λ k p p' h. (run_last flow k (going q) ∙ ap (onward flow) h.0, one_more k q p h.0 h.1)) m (going q) (going q)
      (run_none flow 0 (going q) (omega arith), counted_below {next = q} (omega arith) l refl)).1

  -- So boxes that reach the limit end the run.
  pub run_ends : (m : ℕ) (q : Run) → q.steps < q.limit → q.limit ≤ q.steps + m → Over (run flow m (going q))
  run_ends m q l h = by (run_after m q l)
    where
      by : {p : Progress} → After m q p → Over p
      by (ended_within {e = e} {steps = steps} i c) = record { ending = e; steps = steps; is = refl }
      by (counted_below s b k) = absurd (omega arith)
