-- The pace of high-water and surveillance. Two runs of one start stay in step, surveillance's marks
-- lying under high-water's, until one of them ends or high-water can tell no value any more.
-- Assumes nothing.
use Prim.Native.Nat.{ℕ, ◌%◌}
use mathlib.Core.Path.{◌≡◌, refl, sym, subst}
use mathlib.Core.List.{List, [], ◌∷◌}
use mathlib.Core.Bool.{Bool, true, false, cond}
use lib.Bits.{bit_or}
use lib.Dec.{leb}
use lib.ListN.{length, get_or, set, length-set}
use Rattle.decode.specs.Decode.{Box, assigns, decides, halts}
use Rattle.marks.specs.Marks.{Mode, surveillance, high_water, marked, union}
use Rattle.marks.proofs.MarkLaws.{or_none, or_zeros, union_none, marked_none, none_marked}
use Rattle.machine.specs.Act.{entry, entries, act_by, act}
use Rattle.machine.specs.Run.{Run, valued, Progress, going, over, moved, goes_on, settle, step, onward, run}
use Rattle.machine.specs.declared.Act.TheVariants.{Go, Value, Notice}
use Rattle.machine.proofs.Runs.{lift}
use Rattle.begin.specs.Begin.{first_marks}
use Rattle.runs.specs.Whole.{Flowchart, start_of, disclosed, finish, whole}
use Rattle.runs.proofs.Disclosed.{disclosed_value, finish_valued}
use Rattle.run_claims.specs.Secrecy.{RunsKeepPace}
use Rattle.run_claims.proofs.Branches.{clash, cond_both, set_each}
use Rattle.run_claims.proofs.Lost.{Lost, counted, noticed, used_up, goes_lost, step_by, onward_lost}

-- The marks of surveillance lie under those of the high-water mark.
pub record Under (ms hs : List ℕ) : Type 0 where
  pub long : length ms ≡ length hs
  pub under : (j : ℕ) → get_or hs j 0 ≡ 0 → get_or ms j 0 ≡ 0

union_under : {ms hs : List ℕ} → Under ms hs → (rs : List ℕ) → union (entries hs rs) ≡ 0 → union (entries ms rs) ≡ 0
unfolding union
union_under h [] e = refl
union_under {ms} {hs} h (j ∷ rs) e =
    let z = union_none (entry hs j) (entries hs rs) e in
    or_zeros (entry ms j) (union (entries ms rs)) (h.under (j % 32) z.0) (union_under h rs z.1)

set_under : {ms hs : List ℕ} → Under ms hs → (t m n : ℕ) → (n ≡ 0 → m ≡ 0) → Under (set ms t m) (set hs t n)
set_under {ms} {hs} h t m n f =
    record {
      long = simp length-set h.long;
      under = set_each (λ p q z. p ≡ 0 → q ≡ 0) hs ms ms h.long h.long h.under t n m m f;
    }

-- The surveillance run beside a high-water run that has no counter mark.
abbrev pub beside : Run → List ℕ → Run
beside q ms =
    record { vars = q.vars; marks = ms; counter = 0; mode = surveillance; at = q.at; limit = q.limit; steps = q.steps }

pub data Pace : Progress → Progress → Type 0 where
  lost : {h s : Progress} → Lost h → Pace h s
  both : {v steps : ℕ} → Pace (over (valued v) steps) (over (valued v) steps)
  level : {q : Run} (ms : List ℕ) → q.mode ≡ high_water → q.counter ≡ 0 → Under ms q.marks → Pace (going q) (going (beside q ms))

goes_level : (q : Run) (ms : List ℕ) → q.mode ≡ high_water → q.counter ≡ 0 → Under ms q.marks → Pace (goes_on q) (goes_on (beside q ms))
unfolding goes_on
goes_level q ms m c u = cond_both Pace (leb q.limit q.steps) (lost used_up) (level {q = q} ms m c u)

-- One box of both.
settle_pace : (q : Run) (ms : List ℕ) (b : Box) → q.mode ≡ high_water → q.counter ≡ 0 → Under ms q.marks
    → Pace (settle (act high_water b q.vars q.marks q.counter) q) (settle (act surveillance b q.vars ms 0) (beside q ms))
unfolding settle act_by
settle_pace q ms (assigns t reads gives next) m c u =
    let read = union (entries q.marks reads) in
    goes_level _ _ m c
    (set_under u (t % 32) (union (entries ms reads)) (bit_or (entry q.marks t) read)
    (λ z. union_under u reads (or_none (entry q.marks t) _ z).1))
settle_pace q ms (decides reads holds next other) m c u = on (marked (bit_or q.counter (union (entries q.marks reads)))) refl
  where
    way : ℕ
    way = cond (holds (entries q.vars reads)) next other

    on : (b : Bool) → marked (bit_or q.counter (union (entries q.marks reads))) ≡ b
        → Pace (goes_on (moved q q.vars q.marks (bit_or q.counter (union (entries q.marks reads))) way))
        (settle (cond (marked (union (entries ms reads))) (Notice (union (entries ms reads))) (Go way 0)) (beside q ms))
    on true e = lost (goes_lost _ m e)
    on false e =
        let z = marked_none _ e in
        let none = none_marked _ (union_under u reads (or_none q.counter _ z).1) in
        rw none (goes_level (moved q q.vars q.marks (bit_or q.counter (union (entries q.marks reads))) way) ms m z u)
settle_pace q ms halts m c u = on (marked (bit_or q.counter (entry q.marks 31))) refl
  where
    on : (b : Bool) → marked (bit_or q.counter (entry q.marks 31)) ≡ b
        → Pace (settle (cond b (Notice 0) (Value (entry q.vars 31))) q)
        (settle (cond (marked (entry ms 31)) (Notice (entry ms 31)) (Value (entry q.vars 31))) (beside q ms))
    on true e = lost noticed
    on false e =
        let none = none_marked _ (u.under 31 (or_none q.counter _ (marked_none _ e)).1) in
        rw none both

module _ (flow : ℕ → Box) where
  onward_pace : {h s : Progress} → Pace h s → Pace (onward flow h) (onward flow s)
  unfolding onward
  onward_pace (lost l) = lost (onward_lost flow l)
  onward_pace both = both
  onward_pace (level {q = q} ms m c u) =
      subst (λ (k : Mode). Pace (step_by flow k q) (step flow (beside q ms))) (sym m) (settle_pace q ms (flow q.at) m c u)

  pub run_pace : (n : ℕ) {h s : Progress} → Pace h s → Pace (run flow n h) (run flow n s)
  run_pace n {h} {s} p = lift flow flow (λ k. Pace) (λ k x y. onward_pace) n h s p

-- What the pace says of a value: the surveillance run has it too.
pub pace_value : {h s : Progress} (v steps : ℕ) → Pace h s → h ≡ over (valued v) steps → s ≡ over (valued v) steps
pace_value v steps (lost (counted m c)) w = clash cc
pace_value v steps (lost noticed) w = clash cc
pace_value v steps (lost used_up) w = clash cc
pace_value v steps both w = w
pace_value v steps (level ms m c u) w = clash cc

-- One start in both modes, and what is told of both.
module _ (c : Flowchart) (inputs : List ℕ) (allowed limit : ℕ) where
  pub start_pace : Pace (going (start_of c high_water inputs allowed limit)) (going (start_of c surveillance inputs allowed limit))
  start_pace =
      level {q = start_of c high_water inputs allowed limit} (first_marks allowed c.inputs) refl refl (record { long = refl; under = λ j e. e })

pub runs_keep_pace : RunsKeepPace
unfolding whole finish disclosed
runs_keep_pace c inputs allowed limit v steps e =
    let come = run c.flow limit (going (start_of c high_water inputs allowed limit)) in
    let value = disclosed_value high_water come v steps (finish_valued (disclosed high_water come) v steps e) in
    rw (pace_value v steps (run_pace c.flow limit (start_pace c inputs allowed limit)) value)
