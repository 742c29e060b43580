-- Unwinding of runs. Two are low-equal when they are the same; or both are under way at one box and
-- differ only in variables that are marked; or, with the high-water mark, both can tell no value
-- any more. A box keeps that (step consistency), so any number of boxes do; and low-equal runs that
-- have reached their limit finish alike. Assumes nothing.
use Prim.Native.Nat.{ℕ, zero, suc, ◌%◌}
use mathlib.Core.Path.{◌≡◌, refl, ap, sym, ◌∙◌, subst}
use mathlib.Core.List.{List, [], ◌∷◌}
use mathlib.Core.Logic.{inl, inr}
use mathlib.Core.Bool.{Bool, true, false, cond}
use native.Mathlib.Omega.{arith}
use lib.Bits.{bit_or}
use lib.Dec.{leb}
use lib.ListN.{length, get_or, set, length-set}
use Rattle.decode.specs.Decode.{Box, assigns, decides, halts}
use Rattle.marks.specs.Marks.{Mode, surveillance, high_water, marked, union, by_mode, target_mark, halt_notice, named_by, hides}
use Rattle.marks.proofs.MarkLaws.{or_none, union_none, marked_none}
use Rattle.machine.specs.Act.{entry, entries, act_by, act}
use Rattle.machine.specs.Run.{Run, Progress, going, goes_on, settle, step, onward, run}
use Rattle.machine.specs.declared.Act.TheVariants.{Go, Value, Notice}
use Rattle.machine.proofs.Runs.{lift}
use Rattle.begin.specs.Begin.{first_vars, first_marks}
use Rattle.begin.proofs.Begins.{length_vars, length_marks, first_agree}
use Rattle.runs.specs.Whole.{Flowchart, start_of, disclosed, finish, whole}
use Rattle.run_claims.specs.Secrecy.{Guarded, AllowedAlike, Fits, RunsAreSecret}
use Rattle.run_claims.proofs.Branches.{cond_both, set_each}
use Rattle.run_claims.proofs.Counting.{Over, run_ends}
use Rattle.run_claims.proofs.Lost.{Lost, goes_lost, step_by, onward_lost, lost_hidden}

-- Two lists of values that agree wherever there is no mark.
pub record Agree (marks v w : List ℕ) : Type 0 where
  pub left : length v ≡ length marks
  pub right : length w ≡ length marks
  pub agree : (j : ℕ) → get_or marks j 0 ≡ 0 → get_or v j 0 ≡ get_or w j 0

values_agree : {marks v w : List ℕ} → Agree marks v w → (rs : List ℕ) → union (entries marks rs) ≡ 0 → entries v rs ≡ entries w rs
values_agree h [] e = refl
values_agree {marks} {v} {w} h (j ∷ rs) e =
    let z = union_none (entry marks j) (entries marks rs) e in
    let p : entry v j ≡ entry w j = h.agree (j % 32) z.0 in
    let q : entries v rs ≡ entries w rs = values_agree h rs z.1 in
    cc

set_agree : {marks v w : List ℕ} → Agree marks v w → (t x y m : ℕ) → (m ≡ 0 → x ≡ y) → Agree (set marks t m) (set v t x) (set w t y)
set_agree {marks} {v} {w} h t x y m f =
    record {
      left = simp length-set h.left;
      right = simp length-set h.right;
      agree = set_each (λ n p q. n ≡ 0 → p ≡ q) marks v w h.left h.right h.agree t m x y f;
    }

-- The run with other values in its variables.
abbrev pub with_vars : Run → List ℕ → Run
with_vars q w =
    record { vars = w; marks = q.marks; counter = q.counter; mode = q.mode; at = q.at; limit = q.limit; steps = q.steps }

-- A mode that guards a run, by the run's mode and counter mark: surveillance, or the high-water
-- mark while no decision has read a marked variable.
pub data Watched : Mode → (mode : Mode) (counter : ℕ) → Type 0 where
  surveyed : {mode : Mode} {counter : ℕ} → mode ≡ surveillance → Watched surveillance mode counter
  unmarked : {mode : Mode} {counter : ℕ} → mode ≡ high_water → counter ≡ 0 → Watched high_water mode counter

pub watched_mode : {m mode : Mode} {counter : ℕ} → Watched m mode counter → mode ≡ m
watched_mode (surveyed m) = m
watched_mode (unmarked m c) = m

-- Where such a mode gives its target or a halt no mark, what was read had none.
read_none : {m mode : Mode} {counter : ℕ} → Watched m mode counter → (other old read : ℕ) → by_mode m other read (bit_or old read) ≡ 0 → read ≡ 0
read_none (surveyed m) other old read z = z
read_none (unmarked m c) other old read z = (or_none old read z).1

pub data Low : Mode → Progress → Progress → Type 0 where
  same_run : {m : Mode} {p : Progress} → Low m p p
  runs_apart : {m : Mode} {q : Run} (w : List ℕ) → Watched m q.mode q.counter → Agree q.marks q.vars w → Low m (going q) (going (with_vars q w))
  both_lost : {p p' : Progress} → Lost p → Lost p' → Low high_water p p'

goes_low : {m : Mode} (q : Run) (w : List ℕ) → Watched m q.mode q.counter → Agree q.marks q.vars w → Low m (goes_on q) (goes_on (with_vars q w))
unfolding goes_on
goes_low {m} q w s h = cond_both (Low m) (leb q.limit q.steps) same_run (runs_apart {q = q} w s h)

-- Step consistency.
module _ (q : Run) (w : List ℕ) (h : Agree q.marks q.vars w) where
  abbrev settles_low : Mode → Box → Type 0
  settles_low m b = Low m (settle (act m b q.vars q.marks q.counter) q) (settle (act m b w q.marks q.counter) (with_vars q w))

  settle_low : (b : Box) {m : Mode} → Watched m q.mode q.counter → settles_low m b
  unfolding settle act_by
  settle_low (assigns t reads gives next) {m} g =
      let read = union (entries q.marks reads) in
      goes_low _ _ g
      (set_agree h (t % 32) (gives (entries q.vars reads)) (gives (entries w reads)) (target_mark m (entry q.marks t) read)
      (λ z. ap gives (values_agree h reads (read_none g _ (entry q.marks t) read z))))
  settle_low (decides reads holds next other) (surveyed m) = on (marked (union (entries q.marks reads))) refl
    where
      on : (b : Bool) → marked (union (entries q.marks reads)) ≡ b
          → Low surveillance
          (settle (cond b (Notice (union (entries q.marks reads))) (Go (cond (holds (entries q.vars reads)) next other) q.counter)) q)
          (settle (cond b (Notice (union (entries q.marks reads))) (Go (cond (holds (entries w reads)) next other) q.counter)) (with_vars q w))
      on true e = same_run
      on false e = rw (← values_agree h reads (marked_none _ e)) (goes_low _ w (surveyed m) h)
  settle_low (decides reads holds next other) (unmarked m c) = on (marked (bit_or q.counter (union (entries q.marks reads)))) refl
    where
      on : (b : Bool) → marked (bit_or q.counter (union (entries q.marks reads))) ≡ b → settles_low high_water (decides reads holds next other)
      on true e = both_lost (goes_lost _ m e) (goes_lost _ m e)
      on false e =
          let none = marked_none _ e in
          rw (← values_agree h reads (or_none q.counter _ none).1) (goes_low _ w (unmarked m none) h)
  settle_low halts {m} g = on (marked (halt_notice m q.counter (entry q.marks 31))) refl
    where
      stop : ℕ
      stop = halt_notice m q.counter (entry q.marks 31)

      on : (b : Bool) → marked stop ≡ b
          → Low m (settle (cond b (Notice (named_by m stop)) (Value (entry q.vars 31))) q)
          (settle (cond b (Notice (named_by m stop)) (Value (entry w 31))) (with_vars q w))
      on true e = same_run
      on false e = rw (h.agree 31 (read_none g 0 q.counter (entry q.marks 31) (marked_none _ e))) same_run

  -- The box at hand.
  step_low : (flow : ℕ → Box) {m : Mode} → Watched m q.mode q.counter → Low m (step flow q) (step flow (with_vars q w))
  step_low flow {m} g =
      subst (λ (k : Mode). Low m (step_by flow k q) (step_by flow k (with_vars q w))) (sym (watched_mode g)) (settle_low (flow q.at) g)

onward_low : (flow : ℕ → Box) {m : Mode} {p p' : Progress} → Low m p p' → Low m (onward flow p) (onward flow p')
unfolding onward
onward_low flow same_run = same_run
onward_low flow (runs_apart {q = q} w s h) = step_low q w h flow s
onward_low flow (both_lost a b) = both_lost (onward_lost flow a) (onward_lost flow b)

pub run_low : (flow : ℕ → Box) (n : ℕ) {m : Mode} {p p' : Progress} → Low m p p' → Low m (run flow n p) (run flow n p')
run_low flow n {m} {p} {p'} h = lift flow flow (λ k. Low m) (λ k x y. onward_low flow) n p p' h

-- Where counts are hidden and both are over, all that was lost is hidden; else low-equal runs
-- finish alike.
low_finish : {m : Mode} {p p' : Progress} → Low m p p' → (hides m ≡ true → Over p × Over p') → finish (disclosed m p) ≡ finish (disclosed m p')
unfolding disclosed finish
low_finish same_run o = refl
low_finish (runs_apart w g h) o = refl
low_finish (both_lost a b) o = rw (lost_hidden a (o refl).0, lost_hidden b (o refl).1)

-- The starts of two runs that are alike in their allowed inputs.
pub start_agrees : (c : Flowchart) (inputs inputs' : List ℕ) (allowed : ℕ) → Fits c inputs → Fits c inputs' → AllowedAlike allowed inputs inputs'
    → Agree (first_marks allowed c.inputs) (first_vars inputs) (first_vars inputs')
start_agrees c inputs inputs' allowed (few, e) (few', e') alike =
    let k = c.inputs in
    record {
      left = length_vars inputs (omega arith) ∙ sym (length_marks allowed k);
      right = length_vars inputs' (omega arith) ∙ sym (length_marks allowed k);
      agree = first_agree allowed k inputs inputs' (omega arith) e e' (λ j b. alike j);
    }

-- A mode that guards watches a run from its start.
pub guarded_watches : {mode : Mode} → Guarded mode → (m : Mode) × Watched m mode 0
guarded_watches (inl e) = (surveillance, surveyed e)
guarded_watches (inr e) = (high_water, unmarked e refl)

-- From low-equal starts, whatever the limit: 0 boxes leave both under way, and a limit above 0 ends
-- both.
whole_low : {m : Mode} (flow : ℕ → Box) (limit : ℕ) (q : Run) (w : List ℕ) → q.limit ≡ limit → q.steps ≡ 0 → Low m (going q) (going (with_vars q w))
    → finish (disclosed m (run flow limit (going q))) ≡ finish (disclosed m (run flow limit (going (with_vars q w))))
unfolding disclosed finish run
whole_low flow zero q w el es low = refl
whole_low flow (suc l) q w el es low =
    low_finish (run_low flow (suc l) low)
    (λ h. (run_ends flow (suc l) q (omega arith) (omega arith), run_ends flow (suc l) (with_vars q w) (omega arith) (omega arith)))

pub runs_are_secret : RunsAreSecret
unfolding whole
runs_are_secret c mode inputs inputs' allowed limit guards fits fits' alike =
    let watch = (guarded_watches guards).1 in
    let q = start_of c mode inputs allowed limit in
    let w = first_vars inputs' in
    let low = runs_apart {q = q} w watch (start_agrees c inputs inputs' allowed fits fits' alike) in
    ap (λ (k : Mode). finish (disclosed k (run c.flow limit (going q)))) (watched_mode watch)
    ∙ whole_low c.flow limit q w refl refl low
    ∙ sym (ap (λ (k : Mode). finish (disclosed k (run c.flow limit (going (with_vars q w))))) (watched_mode watch))
