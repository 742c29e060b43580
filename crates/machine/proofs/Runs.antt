-- Laws of `run`: a relation of two runs that a box keeps, any number of boxes keep (`lift`), and so
-- what holds of one run; boxes add up, what is over stays as it is, how a loop that counts down
-- takes the first box and ends. What holds where a box goes on, or ends the run with a notice or
-- spent, holds of what it comes to; and a run keeps its mode and its limit. Assumes nothing.
use Prim.Native.Nat.{ℕ, zero, suc, ◌+◌, ◌-◌, ◌<◌, ◌≤◌}
use mathlib.Core.Path.{◌≡◌, refl, ap, sym, ◌∙◌}
use mathlib.Core.Bool.{Bool, true, false, cond}
use native.Mathlib.Nat.{suc-add, zero-add}
use native.Mathlib.Numerals.{add-one}
use native.Mathlib.Omega.{arith}
use lib.Dec.{leb}
use borrow.Author.Tests.{le-leb, lt-leb, leb-false}
use Rattle.decode.specs.Decode.{Box}
use Rattle.marks.specs.Marks.{Mode, marked, named_by}
use Rattle.machine.specs.Act.{notice_or}
use Rattle.machine.specs.Run.{Run, Ending, notice, spent, Progress, going, over, goes_on, settle, step, onward, run}
use Rattle.machine.specs.declared.Act.{Act}
use Rattle.machine.specs.declared.Act.TheVariants.{Store, Go, Value, Notice}

-- A relation of two runs, by how many boxes of each have been run: what one box of both keeps, n
-- boxes keep.
pub lift : (f f' : ℕ → Box) (Related : ℕ → Progress → Progress → Type 0)
    → ((k : ℕ) (p p' : Progress) → Related k p p' → Related (suc k) (onward f p) (onward f' p'))
    → (n : ℕ) (p p' : Progress) → Related 0 p p' → Related n (run f n p) (run f' n p')
unfolding run
lift f f' Related one zero p p' h = h
lift f f' Related one (suc n) p p' h =
    lift f f' (λ k. Related (suc k)) (λ k. one (suc k)) n (onward f p) (onward f' p') (one 0 p p' h)

module _ (flow : ℕ → Box) where
  pub run_add : (m n : ℕ) (p : Progress) → run flow (m + n) p ≡ run flow n (run flow m p)
  unfolding run
  run_add zero n p = rw zero-add
  run_add (suc m) n p = rw suc-add (run_add m n (onward flow p))

  pub run_last : (n : ℕ) (p : Progress) → run flow (suc n) p ≡ onward flow (run flow n p)
  unfolding run
  run_last n p = ap (λ (k : ℕ). run flow k p) (sym (add-one n)) ∙ run_add n 1 p

  -- What each box keeps, n boxes keep.
  onward_keeps : (Good : Progress → Type 0) → ((q : Run) → Good (going q) → Good (step flow q)) → (p : Progress) → Good p → Good (onward flow p)
  unfolding onward
  onward_keeps Good f (going q) h = f q h
  onward_keeps Good f (over e steps) h = h

  pub run_keeps : (Good : Progress → Type 0) → ((q : Run) → Good (going q) → Good (step flow q)) → (n : ℕ) (p : Progress) → Good p → Good (run flow n p)
  run_keeps Good f n p h = lift flow flow (λ k x y. Good x) (λ k x y. onward_keeps Good f x) n p p h

  pub over_still : (m : ℕ) (e : Ending) (steps : ℕ) → run flow m (over e steps) ≡ over e steps
  over_still m e steps = run_keeps (λ p. p ≡ over e steps) (λ q h. never q h) m (over e steps) refl
    where
      never : (q : Run) → going q ≡ over e steps → step flow q ≡ over e steps
      never q h = let z : ◌≡◌ {A = ℕ} 0 1 = cc in absurd (omega arith)

  pub run_one : (n : ℕ) (q : Run) → 0 < n → run flow n (going q) ≡ run flow (n - 1) (step flow q)
  unfolding run onward
  run_one zero q h = let z : ⊥ = omega arith in absurd z
  run_one (suc n) q h =
      let e : suc n - 1 ≡ n = omega arith in
      rw e

  pub run_none : (n : ℕ) (p : Progress) → n ≤ 0 → run flow n p ≡ p
  unfolding run
  run_none zero p h = refl
  run_none (suc n) p h = let z : ⊥ = omega arith in absurd z

-- A box that goes on: the run is spent, or below its limit. One that may give a notice gives it, or
-- does something else.
module _ (Good : Progress → Type 0) where
  pub goes_by : (q : Run) → Good (over spent q.steps) → (q.steps < q.limit → Good (going q)) → Good (goes_on q)
  unfolding goes_on
  goes_by q ends goes = on (leb q.limit q.steps) refl
    where
      on : (b : Bool) → leb q.limit q.steps ≡ b → Good (cond b (over spent q.steps) (going q))
      on true e = ends
      on false e = goes (leb-false _ _ e)

  pub notice_by : (m : Mode) (stops : ℕ) (other : Act) (q : Run) → (marked stops ≡ true → Good (over (notice (named_by m stops)) (q.steps + 1)))
      → (marked stops ≡ false → Good (settle other q))
      → Good (settle (notice_or m stops other) q)
  unfolding settle
  notice_by m stops other q ends goes = on (marked stops) refl
    where
      on : (b : Bool) → marked stops ≡ b → Good (settle (cond b (Notice (named_by m stops)) other) q)
      on true e = ends e
      on false e = goes e

-- A run under way keeps its mode and its limit.
abbrev pub AsBegun : Run → Progress → Type 0
AsBegun first (going q) = (q.mode ≡ first.mode) × (q.limit ≡ first.limit)
AsBegun first (over e steps) = Unit {0}

settle_as_begun : (first : Run) (a : Act) (q : Run) → AsBegun first (going q) → AsBegun first (settle a q)
unfolding settle
settle_as_begun first (Store target value mark next) q h = goes_by (AsBegun first) _ tt (λ l. h)
settle_as_begun first (Go next counter) q h = goes_by (AsBegun first) _ tt (λ l. h)
settle_as_begun first (Value v) q h = tt
settle_as_begun first (Notice named) q h = tt

pub run_as_begun : (flow : ℕ → Box) (m : ℕ) (q : Run) → AsBegun q (run flow m (going q))
run_as_begun flow m q = run_keeps flow (AsBegun q) (λ x h. settle_as_begun q _ x h) m (going q) (refl, refl)

-- A run that is over after n boxes is over so after more.
pub over_twice : (flow : ℕ → Box) (p : Progress) (e : Ending) (n steps m : ℕ) → run flow n p ≡ over e steps → run flow (n + m) p ≡ over e steps
over_twice flow p e n steps m h = run_add flow n m p ∙ ap (run flow m) h ∙ over_still flow m e steps

-- A run that has made its limit is spent, and one below it goes on.
pub goes_spent : (q : Run) → q.limit ≤ q.steps → goes_on q ≡ over spent q.steps
unfolding goes_on
goes_spent q h = rw (le-leb _ _ h)

pub goes_further : (q : Run) → q.steps < q.limit → goes_on q ≡ going q
unfolding goes_on
goes_further q h = rw (lt-leb _ _ h)
