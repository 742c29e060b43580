-- Two flows, of which the new one has choices in the place of decisions between two copies, and
-- their bare runs: where the old run comes to a value, so does the new one, in as many fewer steps
-- as choices put in were run. The relation: the old run, by as many boxes further as the new one
-- has saved, is at the same box with the same variables and marks, and has counted as many more. A
-- box that stays does the same to both; where a choice was put in, the old run takes two boxes, the
-- decision and a copy, and the new one takes one. The new run has never counted more than the old
-- one, so it goes on where that does. Assumes nothing.
use Prim.Native.Nat.{ℕ, zero, suc, ◌+◌, ◌%◌}
use mathlib.Core.Path.{◌≡◌, refl, ap, sym, ◌∙◌, subst}
use mathlib.Core.List.{List, [], ◌∷◌}
use mathlib.Core.Bool.{Bool, true, false, cond}
use native.Mathlib.Nat.{zero-add}
use native.Mathlib.Omega.{arith}
use lib.ListN.{set}
use Rattle.operations.specs.Operation.{compares, chosen}
use Rattle.decode.specs.Decode.{Box, assigns, decides}
use Rattle.marks.specs.Marks.{bare}
use Rattle.machine.specs.Act.{entry, entries, act_by}
use Rattle.machine.specs.Run.{Run, Ending, valued, Progress, going, over, moved, goes_on, settle, step, onward, run}
use Rattle.machine.specs.declared.Act.{Act}
use Rattle.machine.specs.declared.Act.TheVariants.{Store, Go, Value, Notice}
use Rattle.machine.proofs.Runs.{lift, run_add, over_still, goes_by, goes_further}
use Rattle.run_claims.proofs.Branches.{clash}
use Rattle.run_claims.proofs.Lost.{Lost, counted, noticed, used_up, run_lost}
use Rattle.rewrite_claims.specs.Rewriting.{boxes_run}

-- A box that copies a variable to a target.
pub record Copies (target from next : ℕ) (b : Box) : Type 0 where
  pub gives : List ℕ → ℕ
  pub is : b ≡ assigns target (from ∷ []) gives next
  pub same : (v : ℕ) → gives (v ∷ []) ≡ v

-- At number p the old flow f decides between two copies, and the new one, f', has the choice
-- between them.
pub record Chooses (f f' : ℕ → Box) (p : ℕ) : Type 0 where
  pub comparison : ℕ
  pub left : ℕ
  pub right : ℕ
  pub true_next : ℕ
  pub false_next : ℕ
  pub target : ℕ
  pub next : ℕ
  pub one : ℕ
  pub other : ℕ
  pub decision : f p ≡ decides (left ∷ right ∷ []) (compares comparison) true_next false_next
  pub if_true : Copies target one next (f true_next)
  pub if_false : Copies target other next (f false_next)
  pub choice : f' p ≡ assigns target (left ∷ right ∷ one ∷ other ∷ []) (chosen comparison) next

-- What becomes of the box of number p, by whether a choice is put in there.
pub data Becomes (f f' : ℕ → Box) (put : ℕ → Bool) (p : ℕ) : Type 0 where
  stays : put p ≡ false → f' p ≡ f p → Becomes f f' put p
  chooses : put p ≡ true → Chooses f f' p → Becomes f f' put p

-- A bare run after a decision, and after a copy.
abbrev decided : Run → (next : ℕ) → Run
decided q next = moved q q.vars q.marks q.counter next

abbrev copied : Run → (target from next : ℕ) → Run
copied q target from next =
    moved q (set q.vars (target % 32) (entry q.vars from)) (set q.marks (target % 32) (entry q.marks target)) q.counter next

copy_step : (f : ℕ → Box) {target from next : ℕ} (q : Run) → q.mode ≡ bare → Copies target from next (f q.at)
    → step f q ≡ goes_on (copied q target from next)
unfolding settle act_by
copy_step f q is-bare c = rw (is-bare, c.is, c.same)

entry_of_either : (b : Bool) (vars : List ℕ) (one other : ℕ) → cond b (entry vars one) (entry vars other) ≡ entry vars (cond b one other)
entry_of_either true vars one other = refl
entry_of_either false vars one other = refl

next_copies : {f f' : ℕ → Box} {p : ℕ} (c : Chooses f f' p) (b : Bool)
    → Copies c.target (cond b c.one c.other) c.next (f (cond b c.true_next c.false_next))
next_copies c true = c.if_true
next_copies c false = c.if_false

module _ {f f' : ℕ → Box} (q : Run) (is-bare : q.mode ≡ bare) (c : Chooses f f' q.at) where
  -- Whether the comparison holds.
  abbrev holds : Bool
  holds = compares c.comparison (entries q.vars (c.left ∷ c.right ∷ []))

  decision_step : step f q ≡ goes_on (decided q (cond holds c.true_next c.false_next))
  unfolding settle act_by
  decision_step = rw (is-bare, c.decision)

  choice_step : step f' q ≡ goes_on (copied q c.target (cond holds c.one c.other) c.next)
  unfolding settle act_by chosen compares
  choice_step = rw (is-bare, c.choice, entry_of_either)

none_run : (f : ℕ → Box) (some : ℕ → Bool) (m : ℕ) (e : Ending) (steps : ℕ) → boxes_run f some m (over e steps) ≡ 0
unfolding boxes_run
none_run f some zero e steps = refl
none_run f some (suc m) e steps = refl

-- A run with k steps counted.
abbrev pub counting : Run → (k : ℕ) → Run
counting q k = record { vars = q.vars; marks = q.marks; counter = q.counter; mode = q.mode; at = q.at; limit = q.limit; steps = k }

-- The new run and the old one, which has counted j more, until that can tell no value any more.
data Ahead (j : ℕ) : (new old : Progress) → Type 0 where
  level : {q : Run} {k : ℕ} → q.mode ≡ bare → k ≡ q.steps + j → Ahead j (going q) (going (counting q k))
  ended : {v s t : ℕ} → t ≡ s + j → Ahead j (over (valued v) s) (over (valued v) t)
  lost : {new old : Progress} → Lost old → Ahead j new old

module _ (j : ℕ) where
  goes_ahead : (q : Run) (k : ℕ) → q.mode ≡ bare → k ≡ q.steps + j → Ahead j (goes_on q) (goes_on (counting q k))
  goes_ahead q k is-bare e =
      goes_by (λ x. Ahead j (goes_on q) x) (counting q k) (lost used_up) (λ below. rw (goes_further q (omega arith)) (level is-bare e))

  -- The same act of both.
  settle_ahead : (a : Act) (q : Run) (k : ℕ) → q.mode ≡ bare → k ≡ q.steps + j → Ahead j (settle a q) (settle a (counting q k))
  unfolding settle
  settle_ahead (Store target value mark next) q k is-bare e = goes_ahead (moved q _ _ _ _) (k + 1) is-bare (omega arith)
  settle_ahead (Go next counter) q k is-bare e = goes_ahead (moved q _ _ _ _) (k + 1) is-bare (omega arith)
  settle_ahead (Value v) q k is-bare e = ended {s = q.steps + 1} {t = k + 1} (omega arith)
  settle_ahead (Notice named) q k is-bare e = lost noticed

  -- Where the old run has the value, so does the new one.
  ahead_value : {new old : Progress} (v s : ℕ) → Ahead j new old → old ≡ over (valued v) s → (steps : ℕ) × (new ≡ over (valued v) steps) × (s ≡ steps + j)
  ahead_value v s (level is-bare e) is = clash cc
  ahead_value v s (ended {v = w} {s = steps} {t = t} e) is = (steps, ap (λ (x : ℕ). over (valued x) steps) (value_once is), sym (count_once is) ∙ e)
    where
      value_once : {a b c d : ℕ} → over (valued a) c ≡ over (valued b) d → a ≡ b
      value_once z = cc

      count_once : {a b c d : ℕ} → over (valued a) c ≡ over (valued b) d → c ≡ d
      count_once z = cc
  ahead_value v s (lost (counted m c)) is = clash cc
  ahead_value v s (lost noticed) is = clash cc
  ahead_value v s (lost used_up) is = clash cc

module _ (f f' : ℕ → Box) (put : ℕ → Bool) (becomes : (p : ℕ) → Becomes f f' put p) where
  -- How many boxes the next one saves.
  saved : Progress → ℕ
  saved (going q) = cond (put q.at) 1 0
  saved (over e steps) = 0

  count_saved : (m : ℕ) (p : Progress) → boxes_run f' put (suc m) p ≡ saved p + boxes_run f' put m (onward f' p)
  unfolding boxes_run onward saved
  count_saved m (going q) = refl
  count_saved m (over e steps) = omega (arith, none_run f' put m e steps)

  -- The old run at a decision between two copies, and then at the copy.
  copy_ahead : (j : ℕ) (q : Run) (k : ℕ) → q.mode ≡ bare → k ≡ q.steps + j → (c : Chooses f f' q.at)
      → Ahead (1 + j) (step f' q) (onward f (step f (counting q k)))
  unfolding onward
  copy_ahead j q k is-bare e c =
      let b = holds q is-bare c in
      let at = cond b c.true_next c.false_next in
      let from = cond b c.one c.other in
      let before = decided (counting q k) at in
      rw (choice_step q is-bare c, decision_step (counting q k) is-bare c)
      (goes_by (λ x. Ahead (1 + j) (goes_on (copied q c.target from c.next)) (onward f x)) before (lost used_up)
      (λ below. rw (copy_step f before is-bare (next_copies c b)) (goes_ahead (1 + j) (copied q c.target from c.next) (k + 1 + 1) is-bare (omega arith))))

  -- One box of the new run, and one or two of the old one.
  box_ahead : (j : ℕ) {p x : Progress} → Ahead j p x → Ahead (saved p + j) (onward f' p) (run f (suc (saved p)) x)
  unfolding run onward saved
  box_ahead j (level {q = q} {k = k} is-bare e) = by (becomes q.at)
    where
      by : Becomes f f' put q.at → Ahead (cond (put q.at) 1 0 + j) (step f' q) (run f (cond (put q.at) 1 0) (step f (counting q k)))
      by (stays none same) = rw (none, same) (settle_ahead (0 + j) _ q k is-bare (omega arith))
      by (chooses some c) = rw some (copy_ahead j q k is-bare e c)
  box_ahead j (ended {s = s} {t = t} e) = ended {s = s} {t = t} (omega arith)
  box_ahead j {p} (lost l) = lost (run_lost f (suc (saved p)) l)

  -- What is left to count, and where the old run is by as many boxes further as were saved.
  abbrev Saves : (n total k : ℕ) (new old : Progress) → Type 0
  Saves n total k new old = (m : ℕ) → k + m ≡ n → (j : ℕ) × (j + boxes_run f' put m new ≡ total) × Ahead j new (run f j old)

  box_saves : (n total k : ℕ) (new old : Progress) → Saves n total k new old → Saves n total (suc k) (onward f' new) (onward f old)
  unfolding run
  box_saves n total k new old h m e =
      let here = h (suc m) (omega arith) in
      let j = here.0 in
      let count = here.1 in
      let ahead = here.2 in
      let one = saved new in
      let same : j + suc one ≡ suc (one + j) = omega arith in (
        one + j,
        omega (arith, count, count_saved m new),
        subst (λ (i : ℕ). Ahead (one + j) (onward f' new) (run f i old)) same
            (subst (Ahead (one + j) (onward f' new)) (sym (run_add f j (suc one) old)) (box_ahead j ahead)),
      )

  start_saves : (n : ℕ) (q : Run) → q.mode ≡ bare → Saves n (boxes_run f' put n (going q)) 0 (going q) (going q)
  unfolding run
  start_saves n q is-bare m e =
      let all : m ≡ n = omega arith in
      (0, ap (λ (i : ℕ). 0 + boxes_run f' put i (going q)) all ∙ zero-add _, level {q = q} {k = q.steps} is-bare (omega arith))

  pub shorter : (n : ℕ) (q : Run) (v s : ℕ) → q.mode ≡ bare → run f n (going q) ≡ over (valued v) s
      → (steps : ℕ) × (run f' n (going q) ≡ over (valued v) steps) × (s ≡ steps + boxes_run f' put n (going q))
  unfolding boxes_run
  shorter n q v s is-bare o =
      let last = lift f' f (Saves n (boxes_run f' put n (going q))) (box_saves n _) n (going q) (going q) (start_saves n q is-bare) 0 (omega arith) in
      let value = ahead_value last.0 v s last.2 (ap (run f last.0) o ∙ over_still f last.0 (valued v) s) in
      (value.0, value.1, omega (arith, last.1, value.2))
