-- A run carries withheld inputs only, from its start on, and so does what is disclosed of it.
-- Assumes nothing.
use Prim.Native.Nat.{ℕ, ◌^◌, ◌<◌}
use mathlib.Core.Path.{◌≡◌, refl, sym, ◌∙◌, subst}
use mathlib.Core.List.{List}
use mathlib.Core.Bool.{Bool, true, false, ◌||◌, false≢true}
use lib.Bits.{bit_or}
use borrow.Author.Tests.{eqb-true}
use Rattle.marks.specs.Marks.{Mode}
use Rattle.machine.specs.Run.{going, run}
use Rattle.begin.specs.Begin.{has, allows}
use Rattle.begin.proofs.Begins.{marks_all}
use Rattle.runs.specs.Whole.{Flowchart, start_of, disclosed}
use Rattle.runs.proofs.Disclosed.{disclosed_by}
use Rattle.run_claims.specs.Sets.{WithheldOnly}
use Rattle.run_claims.proofs.Inputs.{none_has, or_has, alone_has}
use Rattle.run_claims.proofs.Carried.{Carries, run_carries}

module _ (allowed k : ℕ) where
  pub none_withheld : WithheldOnly allowed k 0
  none_withheld j e = absurd (false≢true (sym (none_has j) ∙ e))

  join_withheld : (a b : ℕ) → WithheldOnly allowed k a → WithheldOnly allowed k b → WithheldOnly allowed k (bit_or a b)
  join_withheld a b x y j e = on (has a j) refl (sym (or_has a b j) ∙ e)
    where
      on : (h : Bool) → has a j ≡ h → (h || has b j) ≡ true → (j < k) × (allows allowed j ≡ false)
      on true h e = x j h
      on false h e = y j e

  own_withheld : (i : ℕ) → i < k → allows allowed i ≡ false → WithheldOnly allowed k (2 ^ i)
  own_withheld i l w j e =
      subst (λ (x : ℕ). (x < k) × (allows allowed x ≡ false)) (eqb-true i j (sym (alone_has i j) ∙ e)) (l, w)

pub run_withheld : (c : Flowchart) (mode : Mode) (inputs : List ℕ) (allowed limit n : ℕ)
    → Carries (WithheldOnly allowed c.inputs) (disclosed mode (run c.flow n (going (start_of c mode inputs allowed limit))))
run_withheld c mode inputs allowed limit n =
    let k = c.inputs in
    let first = start_of c mode inputs allowed limit in
    let none = none_withheld allowed k in
    disclosed_by (Carries (WithheldOnly allowed k)) mode (run c.flow n (going first))
    (run_carries (WithheldOnly allowed k) none (join_withheld allowed k) c.flow n first
    (record { marks = marks_all (WithheldOnly allowed k) allowed k none (own_withheld allowed k); counter = none }))
    (λ h. none)
