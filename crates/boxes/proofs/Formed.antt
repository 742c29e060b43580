-- Ten bytes obey the rules of a box where they obey those of their kind: the rules of the other
-- kinds ask for another byte 0. Assumes nothing.
use Prim.Native.Nat.{ℕ}
use mathlib.Core.Path.{◌≡◌, refl}
use mathlib.Core.List.{List}
use mathlib.Core.Bool.{Bool, true, false, ◌&&◌, ◌||◌}
use lib.ListN.{length}
use borrow.Author.Tests.{ne_eqb}
use Rattle.boxes.specs.Bytes.{at}
use Rattle.boxes.specs.Box.{has_kind, assignment_rule, decision_rule, halt_rule, choice_rule, well_formed}

or_false : (a : Bool) → (a || false) ≡ a
or_false true = refl
or_false false = refl

-- No other number of bytes obeys them.
pub formed_not : (edition k n : ℕ) (b : List ℕ) → (length b ≡ 10 → ⊥) → well_formed edition k n b ≡ false
unfolding well_formed
formed_not edition k n b e = rw (ne_eqb _ _ e)

module _ (edition k n : ℕ) (b : List ℕ) (ten : length b ≡ 10) where
  pub formed_assignment : at b 0 ≡ 1 → assignment_rule edition k n b ≡ well_formed edition k n b
  unfolding well_formed decision_rule halt_rule choice_rule
  formed_assignment e = rw (ten, e, or_false, or_false, or_false)

  pub formed_decision : at b 0 ≡ 2 → decision_rule k n b ≡ well_formed edition k n b
  unfolding well_formed assignment_rule halt_rule choice_rule
  formed_decision e = rw (ten, e, or_false, or_false)

  pub formed_halt : at b 0 ≡ 3 → halt_rule b ≡ well_formed edition k n b
  unfolding well_formed assignment_rule decision_rule choice_rule
  formed_halt e = rw (ten, e, or_false)

  -- A box of no other kind is a choice, where the edition has it.
  pub formed_choice : (at b 0 ≡ 1 → ⊥) → (at b 0 ≡ 2 → ⊥) → (at b 0 ≡ 3 → ⊥) → (has_kind edition (at b 0) && choice_rule k n b) ≡ well_formed edition k n b
  unfolding well_formed assignment_rule decision_rule halt_rule
  formed_choice one two three = rw (ten, ne_eqb _ _ one, ne_eqb _ _ two, ne_eqb _ _ three)

pub ruleset formed = (formed_not, formed_assignment, formed_decision, formed_halt, formed_choice)
