-- What a run carries: a property that the empty set has and that unions keep, if all the sets of a
-- run have it, stays with them from box to box, and the set named at the end has it. Assumes
-- nothing.
use Prim.Native.Nat.{ℕ, ◌%◌}
use mathlib.Core.Path.{refl}
use mathlib.Core.List.{List, [], ◌∷◌}
use mathlib.Core.Bool.{cond}
use lib.Bits.{bit_or}
use lib.ListN.{get_or}
use Rattle.decode.specs.Decode.{Box, assigns, decides, halts}
use Rattle.marks.specs.Marks.{Mode, union, target_mark, decision_notice, counter_mark, halt_notice, named_by}
use Rattle.marks.proofs.MarkLaws.{by_mode_lem}
use Rattle.machine.specs.Act.{entry, entries, act_by, act}
use Rattle.machine.specs.Run.{Run, named_in, Progress, going, over, settle, run}
use Rattle.machine.specs.declared.Act.TheVariants.{Go, Value}
use Rattle.machine.proofs.Runs.{run_keeps, goes_by, notice_by}
use Rattle.run_claims.specs.Sets.{AllSets}
use Rattle.run_claims.proofs.Branches.{set_each}

-- All the sets of a run under way, and the set that is named of one that is over.
abbrev pub Carries : (ℕ → Type 0) → Progress → Type 0
Carries P (going q) = AllSets P q
Carries P (over e steps) = P (named_in e)

module _ (P : ℕ → Type 0) (none : P 0) (join : (a b : ℕ) → P a → P b → P (bit_or a b)) where
  union_has : (marks : List ℕ) → ((v : ℕ) → P (get_or marks v 0)) → (vs : List ℕ) → P (union (entries marks vs))
  unfolding union
  union_has marks all [] = none
  union_has marks all (v ∷ vs) = join (entry marks v) (union (entries marks vs)) (all (v % 32)) (union_has marks all vs)

  named_has : (m : Mode) (set : ℕ) → P set → P (named_by m set)
  named_has m set h = by_mode_lem (λ k. P) m 0 set 0 none h none

  settle_carries : (q : Run) (m : Mode) (b : Box) → AllSets P q → Carries P (settle (act m b q.vars q.marks q.counter) q)
  unfolding settle act_by
  settle_carries q m (assigns t reads gives next) h =
      let read = union (entries q.marks reads) in
      let old = entry q.marks t in
      let mark = target_mark m old read in
      let has = union_has q.marks h.marks reads in
      let before = h.marks (t % 32) in
      let new = by_mode_lem (λ k. P) m old read (bit_or old read) before has (join old read before has) in
      goes_by (Carries P) _ none
      (λ l. record {
        marks = set_each (λ x y z. P x) q.marks q.marks q.marks refl refl h.marks (t % 32) mark mark mark new;
        counter = h.counter;
      })
  settle_carries q m (decides reads holds next other) h =
      let read = union (entries q.marks reads) in
      let has = union_has q.marks h.marks reads in
      let counter = counter_mark m q.counter read in
      let new = by_mode_lem (λ k. P) m q.counter q.counter (bit_or q.counter read) h.counter h.counter (join q.counter read h.counter has) in
      notice_by (Carries P) m (decision_notice m read) (Go (cond (holds (entries q.vars reads)) next other) counter) q
      (λ e. named_has m (decision_notice m read) (by_mode_lem (λ k. P) m 0 read 0 none has none))
      (λ e. goes_by (Carries P) _ none (λ l. record { marks = h.marks; counter = new }))
  settle_carries q m halts h =
      let output = entry q.marks 31 in
      notice_by (Carries P) m (halt_notice m q.counter output) (Value (entry q.vars 31)) q
      (λ e. named_has m (halt_notice m q.counter output)
      (by_mode_lem (λ k. P) m 0 output (bit_or q.counter output) none (h.marks 31) (join q.counter output h.counter (h.marks 31))))
      (λ e. none)

  pub run_carries : (flow : ℕ → Box) (m : ℕ) (q : Run) → AllSets P q → Carries P (run flow m (going q))
  run_carries flow m q h =
      run_keeps flow (Carries P) (λ x y. settle_carries x x.mode (flow x.at) y) m (going q) h
