-- The loop's invariant: of the boxes asked for n are to go, of those allotted `left`, after so many
-- steps, and where none is left the run has come to what all come to; the runner differs from the
-- one at the start in what boxes store alone, no ending is met, the masks are those of the mode,
-- the box at hand is found by `half`, and the marks are of 16 inputs.
use Prim.Native.Nat.{ℕ, ◌+◌, ◌≤◌}
use mathlib.Core.Path.{◌≡◌}
use Rattle.marks.specs.Marks.{mode_in, masks_of}
use Rattle.decode.proofs.Decoded.{Finds}
use Rattle.machine.proofs.Acts.{SixteenInputs}
use Rattle.runner.specs.State.{mode_held, run_in, flow_in}
use Rattle.runner.proofs.Boxes.{Stored, Reached}
use Rattle.runner.proofs.Runner.advance.Given as goal

abbrev pub invariant-loop-left : goal.invariant-loop-left
invariant-loop-left l =
    (n : ℕ)
    × (steps : ℕ)
    × Reached (flow_in l.initial.self) l.asked (run_in l.initial.self) l.self l.at l.initial.end l.left n steps
    × (steps + l.left ≡ l.reach)
    × (n + l.initial.left ≡ l.asked + l.left)
    × (l.left ≤ l.initial.left)
    × Stored l.initial.self l.self
    × (mode_in l.mode ≡ mode_held l.initial.self)
    × (l.end ≡ l.initial.end)
    × (l.masks ≡ masks_of (mode_in l.mode))
    × Finds l.half l.at
    × SixteenInputs l.self.marks

abbrev pub decreases-loop-left : goal.decreases-loop-left
decreases-loop-left l = l.left
