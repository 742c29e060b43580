-- The rules of the sets, seen through any question that the empty set answers with no and that
-- unions join, are 01's on marked and unmarked: whether a set is empty, and whether an input is in
-- it. By the last the arithmetic that sets a mark is read bit by bit; that it is the rule of each
-- mode is in `MarkLaws`. And a run whose sets are seen as marks goes as the run does, box by box,
-- since each rule by the mode and each union commutes with seeing a set as a mark. Assumes nothing.
use Prim.Native.Nat.{ℕ, zero, suc, ◌%◌, ◌^◌, ◌≤◌, ◌<◌}
use mathlib.Core.Path.{◌≡◌, refl, ap, sym, ◌∙◌}
use mathlib.Core.List.{List, [], ◌∷◌, map}
use mathlib.Core.Bool.{Bool, true, false, cond, not, ◌&&◌, ◌||◌, and-true}
use native.Mathlib.Decide.{dec_lt}
use native.Mathlib.Omega.{arith}
use lib.Bits.{bit_and, bit_or, or_comm}
use lib.Dec.{eqb, ltb, leb}
use lib.ListN.{get_or, set, get_or-map}
use lib.Pow.{pow_pos}
use borrow.Author.Tests.{lt-ltb, le-ltb, ne_eqb}
use Rattle.decode.specs.Decode.{Box, assigns, decides, halts}
use Rattle.marks.specs.Marks.{Mode, marked, union, decision_notice, halt_notice}
use Rattle.marks.proofs.MarkLaws.{marked_or, by_mode_lem, by_map, set_surveillance, set_high_water, set_by_mode}
use Rattle.machine.specs.Act.{entry, entries, notice_or, act_by, act}
use Rattle.machine.specs.Run.{Run, Progress, going, over, moved, goes_on, settle, onward, run}
use Rattle.machine.proofs.Runs.{lift}
use Rattle.machine.specs.declared.Act.{Act}
use Rattle.machine.specs.declared.Act.TheVariants.{Store, Go, Value, Notice}
use Rattle.begin.specs.Begin.{has, allows, withheld_mark, first_marks}
use Rattle.begin.proofs.Begins.{marks_at, marks_past}
use Rattle.run_claims.specs.Sets.{any_marked, target_marked, decision_stops, counter_marked, halt_stops, SeenAsMarks, EmptyWhereUnmarked, SetsAreUnions, UnionAndKept, KeepsOneInput, OneArithmetic, SetAsRuled, as_mark, as_marks, progress_as_marks, SetsOnlyName}
use Rattle.run_claims.proofs.Branches.{cond_both}
use Rattle.run_claims.proofs.Inputs.{none_has, or_has, and_has, alone_has}

-- A question that no input answers with yes, and a union exactly where one of its parts does.
module _ (sees : ℕ → Bool) (none : sees 0 ≡ false) (join : (a b : ℕ) → sees (bit_or a b) ≡ (sees a || sees b)) where
  union_seen : (read : List ℕ) → sees (union read) ≡ any_marked (map sees read)
  unfolding union any_marked
  union_seen [] = none
  union_seen (m ∷ read) = join m (union read) ∙ ap (λ (b : Bool). sees m || b) (union_seen read)

  joined_seen : (old : ℕ) (read : List ℕ) → sees (bit_or old (union read)) ≡ (sees old || any_marked (map sees read))
  joined_seen old read = join old (union read) ∙ ap (λ (b : Bool). sees old || b) (union_seen read)

  seen_as_marks : SeenAsMarks sees
  seen_as_marks =
      record {
        assigns = λ mode target read.
            by_mode_lem (λ k x. sees x ≡ target_marked k (sees target) (map sees read)) mode _ _ _ refl (union_seen read) (joined_seen target read);
        decides = λ mode read. by_mode_lem (λ k x. sees x ≡ decision_stops k (map sees read)) mode _ _ _ none (union_seen read) none;
        counts = λ mode counter read.
            by_mode_lem (λ k x. sees x ≡ counter_marked k (sees counter) (map sees read)) mode _ _ _ refl refl (joined_seen counter read);
        halts = λ mode counter output.
            by_mode_lem (λ k x. sees x ≡ halt_stops k (sees counter) (sees output)) mode _ _ _ none refl (ap sees (or_comm counter output) ∙ join output counter);
      }

  -- And the mark that each variable begins with, where the question is known of one input's set.
  first_seen : (alone : ℕ → Bool) → ((j : ℕ) → sees (2 ^ j) ≡ alone j) → (allowed k v : ℕ) → k ≤ 16
      → sees (get_or (first_marks allowed k) v 0) ≡ ((ltb v k && not (allows allowed v)) && alone v)
  unfolding withheld_mark
  first_seen alone own allowed k v f = on (dec_lt v k)
    where
      by : (b : Bool) → sees (cond b 0 (2 ^ v)) ≡ (not b && alone v)
      by true = none
      by false = own v

      on : Dec (v < k) → sees (get_or (first_marks allowed k) v 0) ≡ ((ltb v k && not (allows allowed v)) && alone v)
      on (yes l) = ap sees (marks_at allowed k v f l) ∙ by (allows allowed v) ∙ rw (lt-ltb v k l)
      on (no n) = ap sees (marks_past allowed k v (omega arith)) ∙ none ∙ rw (le-ltb v k (omega arith))

alone_marked : (j : ℕ) → marked (2 ^ j) ≡ true
alone_marked j = rw (ne_eqb (2 ^ j) 0 (λ e. omega (arith, pow_pos j)))

pub empty_where_unmarked : EmptyWhereUnmarked
empty_where_unmarked = (
  (λ allowed k v f. first_seen marked refl marked_or (λ j. true) alone_marked allowed k v f ∙ and-true (ltb v k && not (allows allowed v))),
  seen_as_marks marked refl marked_or,
)

pub sets_are_unions : SetsAreUnions
sets_are_unions j = (
  first_seen (λ set. has set j) (none_has j) (λ a b. or_has a b j) (λ v. eqb v j) (λ v. alone_has v j),
  seen_as_marks (λ set. has set j) (none_has j) (λ a b. or_has a b j),
)

pub union_and_kept : UnionAndKept
union_and_kept before read j =
    let all = union_seen (λ set. has set j) (none_has j) (λ a b. or_has a b j) read in (
      (λ keep. or_has (union read) (bit_and before keep) j ∙ rw (all, and_has before keep j)),
      (λ masks. or_has (bit_and (union read) masks.take) (bit_and before masks.keep) j
          ∙ rw (and_has (union read) masks.take j, all, and_has before masks.keep j)),
    )

pub keeps_one_input : KeepsOneInput
unfolding any_marked
keeps_one_input i before a b j = (union_and_kept before (a ∷ b ∷ []) j).0 (2 ^ i) ∙ rw (alone_has i j)

pub one_arithmetic : OneArithmetic
one_arithmetic before read = (set_surveillance before (union read), set_high_water before (union read))

pub set_as_ruled : SetAsRuled
set_as_ruled mode before read b r = set_by_mode mode before (union read) b r

-- A set seen as a mark is marked where it is; so unions and the rules by the mode.
as_marked : (a : ℕ) → marked (as_mark a) ≡ marked a
as_marked a = on (marked a)
  where
    on : (b : Bool) → marked (cond b 1 0) ≡ b
    on true = refl
    on false = refl

as_or : (a b : ℕ) → bit_or (as_mark a) (as_mark b) ≡ as_mark (bit_or a b)
as_or a b = on (marked a) (marked b) ∙ ap (λ (x : Bool). cond x 1 0) (sym (marked_or a b))
  where
    on : (x y : Bool) → bit_or (cond x 1 0) (cond y 1 0) ≡ cond (x || y) 1 0
    on true true = refl
    on true false = refl
    on false true = refl
    on false false = refl

as_entry : (marks : List ℕ) (v : ℕ) → entry (map as_mark marks) v ≡ as_mark (entry marks v)
as_entry marks v = get_or-map as_mark marks (v % 32) 0

as_union : (marks reads : List ℕ) → union (entries (map as_mark marks) reads) ≡ as_mark (union (entries marks reads))
unfolding union
as_union marks [] = refl
as_union marks (v ∷ reads) = rw (as_entry marks v, as_union marks reads) (as_or (entry marks v) (union (entries marks reads)))

-- The act of a box.
abbrev act_as : Act → Act
act_as (Store target value mark next) = Store target value (as_mark mark) next
act_as (Go next counter) = Go next (as_mark counter)
act_as (Value v) = Value v
act_as (Notice named) = Notice (as_mark named)

notice_as : (m : Mode) (set : ℕ) (other : Act) → notice_or m (as_mark set) (act_as other) ≡ act_as (notice_or m set other)
notice_as m set other = rw (as_marked set, ← by_map as_mark m 0 set 0) (cond_both (λ x y. x ≡ act_as y) (marked set) refl refl)

module _ (m : Mode) (vars marks : List ℕ) (counter : ℕ) where
  act_as_lem : (b : Box) → act m b vars (map as_mark marks) (as_mark counter) ≡ act_as (act m b vars marks counter)
  unfolding act_by
  act_as_lem (assigns t reads gives next) =
      let old = entry marks t in
      let read = union (entries marks reads) in
      rw (by_map as_mark m old read (bit_or old read), ← as_or old read, as_entry marks t, as_union marks reads)
  act_as_lem (decides reads holds next other) =
      let read = union (entries marks reads) in
      let counted = by_map as_mark m counter counter (bit_or counter read) in
      rw (as_union marks reads, as_or counter read, ← counted, ← by_map as_mark m 0 read 0) (notice_as m (decision_notice m read) _)
  act_as_lem halts =
      let output = entry marks 31 in
      rw (as_entry marks 31, as_or counter output, ← by_map as_mark m 0 output (bit_or counter output)) (notice_as m (halt_notice m counter output) _)

-- What the run comes to.
set_as : (marks : List ℕ) (t m : ℕ) → set (map as_mark marks) t (as_mark m) ≡ map as_mark (set marks t m)
set_as [] t m = refl
set_as (x ∷ marks) zero m = refl
set_as (x ∷ marks) (suc t) m = ap (λ (l : List ℕ). as_mark x ∷ l) (set_as marks t m)

goes_as : (q : Run) → goes_on (as_marks q) ≡ progress_as_marks (goes_on q)
unfolding goes_on progress_as_marks
goes_as q = cond_both (λ x y. x ≡ progress_as_marks y) (leb q.limit q.steps) refl refl

settle_as : (a : Act) (q : Run) → settle (act_as a) (as_marks q) ≡ progress_as_marks (settle a q)
unfolding settle progress_as_marks
settle_as (Store t v m next) q =
    ap (λ (l : List ℕ). goes_on (moved (as_marks q) (set q.vars (t % 32) v) l (as_mark q.counter) next)) (set_as q.marks (t % 32) m)
    ∙ goes_as (moved q (set q.vars (t % 32) v) (set q.marks (t % 32) m) q.counter next)
settle_as (Go next counter) q = goes_as (moved q q.vars q.marks counter next)
settle_as (Value v) q = refl
settle_as (Notice named) q = refl

module _ (flow : ℕ → Box) where
  onward_as : (p : Progress) → onward flow (progress_as_marks p) ≡ progress_as_marks (onward flow p)
  unfolding onward progress_as_marks
  onward_as (going q) =
      let m = q.mode in
      let b = flow q.at in
      ap (λ (a : Act). settle a (as_marks q)) (act_as_lem m q.vars q.marks q.counter b) ∙ settle_as (act m b q.vars q.marks q.counter) q
  onward_as (over e steps) = refl

  run_as : (m : ℕ) (p : Progress) → run flow m (progress_as_marks p) ≡ progress_as_marks (run flow m p)
  run_as m p =
      lift flow flow (λ k x y. x ≡ progress_as_marks y) (λ k x y h. ap (onward flow) h ∙ onward_as y) m (progress_as_marks p) p refl

pub sets_only_name : SetsOnlyName
unfolding progress_as_marks
sets_only_name flow m q = run_as flow m (going q)
