-- A high-water run that can tell no value any more: a decision has read a marked variable, or the
-- run is over without a value. It stays so, and of one that is over all is hidden. Assumes nothing.
use Prim.Native.Nat.{ℕ}
use mathlib.Core.Path.{◌≡◌, refl, sym, ◌∙◌, subst}
use mathlib.Core.Bool.{true}
use lib.Bits.{bit_or}
use Rattle.decode.specs.Decode.{Box, assigns, decides, halts}
use Rattle.marks.specs.Marks.{Mode, high_water, marked, union}
use Rattle.marks.proofs.MarkLaws.{marked_or}
use Rattle.machine.specs.Act.{entry, entries, act_by, act}
use Rattle.machine.specs.Run.{Run, notice, spent, Progress, going, over, goes_on, settle, onward, run}
use Rattle.runs.specs.Whole.{disclosed}
use Rattle.machine.proofs.Runs.{lift, goes_by}
use Rattle.run_claims.proofs.Branches.{clash}
use Rattle.run_claims.proofs.Counting.{Over}

pub data Lost : Progress → Type 0 where
  counted : {q : Run} → q.mode ≡ high_water → marked q.counter ≡ true → Lost (going q)
  noticed : {named steps : ℕ} → Lost (over (notice named) steps)
  used_up : {steps : ℕ} → Lost (over spent steps)

pub goes_lost : (q : Run) → q.mode ≡ high_water → marked q.counter ≡ true → Lost (goes_on q)
goes_lost q m c = goes_by Lost q used_up (λ l. counted {q = q} m c)

-- A union with a mark is marked.
marked_left : (a b : ℕ) → marked a ≡ true → marked (bit_or a b) ≡ true
marked_left a b e = marked_or a b ∙ rw e

settle_lost : (q : Run) (b : Box) → q.mode ≡ high_water → marked q.counter ≡ true
    → Lost (settle (act high_water b q.vars q.marks q.counter) q)
unfolding settle act_by
settle_lost q (assigns t reads gives next) m c = goes_lost _ m c
settle_lost q (decides reads holds next other) m c = goes_lost _ m (marked_left q.counter (union (entries q.marks reads)) c)
settle_lost q halts m c = rw (marked_left q.counter (entry q.marks 31) c) noticed

module _ (flow : ℕ → Box) where
  -- The box at hand, by the mode.
  abbrev pub step_by : Mode → Run → Progress
  step_by mode q = settle (act mode (flow q.at) q.vars q.marks q.counter) q

  pub onward_lost : {p : Progress} → Lost p → Lost (onward flow p)
  unfolding onward
  onward_lost (counted {q = q} m c) = subst (λ (k : Mode). Lost (step_by k q)) (sym m) (settle_lost q (flow q.at) m c)
  onward_lost noticed = noticed
  onward_lost used_up = used_up

pub run_lost : (flow : ℕ → Box) (n : ℕ) {p : Progress} → Lost p → Lost (run flow n p)
run_lost flow n {p} h = lift flow flow (λ k x y. Lost x) (λ k x y. onward_lost flow) n p p h

pub lost_hidden : {p : Progress} → Lost p → Over p → disclosed high_water p ≡ over (notice 0) 0
unfolding disclosed
lost_hidden (counted m c) o = let e = o.is in clash cc
lost_hidden noticed o = refl
lost_hidden used_up o = refl
