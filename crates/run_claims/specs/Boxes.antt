-- A claim about one box: "No operation stops a run".
use Rattle.std.specs.Prelude.{ℕ, ◌≡◌, List}
use Rattle.decode.specs.Decode.{meaning}
use Rattle.decode.specs.declared.FlowBox.{FlowBox}
use Rattle.decode.specs.declared.FlowBox.TheVariants.{Assign, Choose}
use Rattle.marks.specs.Marks.{Mode}
use Rattle.machine.specs.Act.{act}
use Rattle.machine.specs.declared.Act.TheVariants.{Store}

-- A box stores to a target and goes on to a box, in any edition and mode, whatever the variables.
abbrev pub StoresAndGoesOn : FlowBox → (target next : ℕ) → Type 0
StoresAndGoesOn b target next =
    (edition : ℕ) (mode : Mode) (vars marks : List ℕ) (counter : ℕ)
    → (value : ℕ) × (mark : ℕ) × (act mode (meaning edition b) vars marks counter ≡ Store target value mark next)

-- "No operation stops a run": an assignment of any operation, on any operands, stores and goes on,
-- and so does a box of kind 4.
abbrev pub NoOperationStops : Type 0
NoOperationStops =
    ((target op left right next constant : ℕ) → StoresAndGoesOn (Assign target op left right next constant) target next)
    × ((target comparison left right next one other : ℕ) → StoresAndGoesOn (Choose target comparison left right next one other) target next)
