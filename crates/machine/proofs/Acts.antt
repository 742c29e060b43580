-- What a box that assigns does, by what the code computed of it, however a mark is set (`store_act`);
-- and that by the masks of the mode the act of a box is its act by the rules, where the marks are of
-- 16 inputs (`act_by_masks`), and the marks that it stores are of 16 inputs again. Assumes nothing.
use Prim.Native.Nat.{ℕ, zero, suc, ◌%◌, ◌^◌, ◌<◌}
use mathlib.Core.Path.{◌≡◌, refl, ap, sym, ◌∙◌}
use mathlib.Core.List.{List, [], ◌∷◌}
use mathlib.Core.Bool.{Bool, true, false, cond}
use native.Mathlib.Omega.{arith}
use lib.Bits.{or_zero_r, or_lt}
use lib.ListN.{get_or, set}
use Rattle.operations.proofs.ReadLaws.{read_map}
use Rattle.marks.specs.Marks.{Mode, marked, union, masks_of, set_by, decision_notice, counter_mark, halt_notice, named_by}
use Rattle.marks.proofs.MarkLaws.{set_by_mode, set_sixteen}
use Rattle.decode.specs.Decode.{Box, assigns, decides, halts, meaning}
use Rattle.decode.specs.declared.FlowBox.{FlowBox}
use Rattle.machine.specs.Act.{entry, entries, notice_or, act_by, act}
use Rattle.machine.specs.declared.Act.{Act}
use Rattle.machine.specs.declared.Act.TheVariants.{Store, Go, Value, Notice}
use Rattle.machine.specs.declared.Marked.{Marked}

-- What the proofs of the code join its reads by: a union ends in no mark, and what an operation reads
-- of the variables is what it reads of their numbers.
pub ruleset reads = (or_zero_r, read_map)

-- A box that assigns: what the code stores of what it gives, by how a mark is set.
module _ (sets : ℕ → ℕ → ℕ) (edition : ℕ) (mode : Mode) (b : FlowBox) (vars marks : List ℕ) (counter : ℕ) where
  pub store_act : (t next : ℕ) (reads : List ℕ) (gives : List ℕ → ℕ) (given : Marked) (r : Act)
      → meaning edition b ≡ assigns t reads gives next
      → given.value ≡ gives (entries vars reads)
      → given.mark ≡ union (entries marks reads)
      → r ≡ Store t given.value (sets (entry marks t) given.mark) next
      → r ≡ act_by sets mode (meaning edition b) vars marks counter
  unfolding act_by
  store_act t next reads gives given r d value read e =
      e ∙ sym (ap (λ (x : Box). act_by sets mode x vars marks counter) d ∙ rw (← value, ← read))

-- Every mark is of 16 inputs.
abbrev pub SixteenInputs : List ℕ → Type 0
SixteenInputs marks = (v : ℕ) → get_or marks v 0 < 2 ^ 16

pub sixteen_union : (marks : List ℕ) → SixteenInputs marks → (reads : List ℕ) → union (entries marks reads) < 2 ^ 16
unfolding union
sixteen_union marks s [] = omega arith
sixteen_union marks s (v ∷ reads) = or_lt 16 (entry marks v) (union (entries marks reads)) (s (v % 32)) (sixteen_union marks s reads)

pub sixteen_set : (marks : List ℕ) (i m : ℕ) → SixteenInputs marks → m < 2 ^ 16 → SixteenInputs (set marks i m)
sixteen_set [] i m s l v = s v
sixteen_set (x ∷ marks) zero m s l zero = l
sixteen_set (x ∷ marks) zero m s l (suc v) = s (suc v)
sixteen_set (x ∷ marks) (suc i) m s l zero = s 0
sixteen_set (x ∷ marks) (suc i) m s l (suc v) = sixteen_set marks i m (λ w. s (suc w)) l v

-- By the masks of the mode a box does what it does by the rules.
module _ (mode : Mode) (marks : List ℕ) (s : SixteenInputs marks) where
  pub act_by_masks : (b : Box) (vars : List ℕ) (counter : ℕ) → act_by (set_by (masks_of mode)) mode b vars marks counter ≡ act mode b vars marks counter
  unfolding act_by
  act_by_masks (assigns t reads gives next) vars counter =
      ap (λ (x : ℕ). Store t (gives (entries vars reads)) x next) (set_by_mode mode (entry marks t) (union (entries marks reads)) (s (t % 32)) (sixteen_union marks s reads))
  act_by_masks (decides reads holds next other) vars counter = refl
  act_by_masks halts vars counter = refl

-- A mark that a box stores by the masks of the mode is of 16 inputs again.
abbrev pub StoresSixteen : Act → Type 0
StoresSixteen (Store t v m next) = m < 2 ^ 16
StoresSixteen (Go next counter) = Unit {0}
StoresSixteen (Value v) = Unit {0}
StoresSixteen (Notice named) = Unit {0}

notice_sixteen : (mode : Mode) (marks : ℕ) (other : Act) → StoresSixteen other → StoresSixteen (notice_or mode marks other)
notice_sixteen mode marks other p = by (marked marks)
  where
    by : (b : Bool) → StoresSixteen (cond b (Notice (named_by mode marks)) other)
    by true = tt
    by false = p

pub stores_sixteen : (mode : Mode) (b : Box) (vars marks : List ℕ) (counter : ℕ) → StoresSixteen (act_by (set_by (masks_of mode)) mode b vars marks counter)
unfolding act_by
stores_sixteen mode (assigns t reads gives next) vars marks counter = set_sixteen mode (entry marks t) (union (entries marks reads))
stores_sixteen mode (decides reads holds next other) vars marks counter =
    let read = union (entries marks reads) in
    notice_sixteen mode (decision_notice mode read) (Go (cond (holds (entries vars reads)) next other) (counter_mark mode counter read)) tt
stores_sixteen mode halts vars marks counter = notice_sixteen mode (halt_notice mode counter (entry marks 31)) (Value (entry vars 31)) tt
