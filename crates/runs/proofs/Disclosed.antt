-- Laws of `disclosed` and `finish`: what is disclosed is what the run has come to, or a notice that
-- names nothing in no steps, where counts are hidden; and what finishes with a value is over with
-- it. Assumes nothing.
use Prim.Native.Nat.{ℕ}
use mathlib.Core.Path.{◌≡◌, refl, ap, sym, ◌∙◌}
use mathlib.Core.Bool.{Bool, true, false, cond, true≢false}
use native.Mathlib.Omega.{arith}
use Rattle.marks.specs.Marks.{Mode, hides}
use Rattle.machine.specs.Run.{valued, notice, spent, Progress, going, over}
use Rattle.runs.specs.Whole.{disclosed, Finish, finish}

pub disclosed_by : (Good : Progress → Type 0) (m : Mode) (p : Progress) → Good p → (hides m ≡ true → Good (over (notice 0) 0)) → Good (disclosed m p)
unfolding disclosed
disclosed_by Good m (going q) h n = h
disclosed_by Good m (over (valued v) steps) h n = h
disclosed_by Good m (over (notice named) steps) h n = on (hides m) refl
  where
    on : (b : Bool) → hides m ≡ b → Good (cond b (over (notice 0) 0) (over (notice named) steps))
    on true e = n e
    on false e = h
disclosed_by Good m (over spent steps) h n = on (hides m) refl
  where
    on : (b : Bool) → hides m ≡ b → Good (cond b (over (notice 0) 0) (over spent steps))
    on true e = n e
    on false e = h

pub disclosed_all : (m : Mode) → hides m ≡ false → (p : Progress) → disclosed m p ≡ p
disclosed_all m e p = disclosed_by (λ x. x ≡ p) m p refl (λ h. absurd (true≢false (sym h ∙ e)))

-- Where counts are hidden a value is disclosed of a value alone.
pub disclosed_value : (m : Mode) (p : Progress) (v steps : ℕ) → disclosed m p ≡ over (valued v) steps → p ≡ over (valued v) steps
disclosed_value m p v steps e =
    disclosed_by (λ x. x ≡ over (valued v) steps → p ≡ over (valued v) steps) m p (λ d. d)
    (λ h d. let z : ◌≡◌ {A = ℕ} 0 1 = cc in absurd (omega arith)) e

pub finish_valued : (p : Progress) (v steps : ℕ) → finish p ≡ record { ending = valued v; steps = steps } → p ≡ over (valued v) steps
unfolding finish
finish_valued (going q) v steps is =
    let ending = ap (λ (x : Finish). x.ending) is in
    let z : ◌≡◌ {A = ℕ} 0 1 = cc in
    absurd (omega arith)
finish_valued (over e n) v steps is =
    let ending = ap (λ (x : Finish). x.ending) is in
    let count = ap (λ (x : Finish). x.steps) is in
    cc
