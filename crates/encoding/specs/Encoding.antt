-- What a call tells as three numbers: a kind, and two values, 0 where there is none.
use Rattle.std.specs.Prelude.{ℕ, ◌≡◌}
use Rattle.machine.specs.Run.{Ending, valued, notice, spent}
use Rattle.runner.specs.Outcomes.{Reply, done, chart, running, ended, ending, wrote, refused}
use Rattle.encoding.specs.declared.Encoded.{Encoded}

abbrev pub numbers : (kind first second : ℕ) → Encoded
numbers kind first second = record { kind = kind; first = first; second = second }

unfoldable pub ending_numbers : Ending → ℕ → Encoded
ending_numbers (valued value) steps = numbers 4 value steps
ending_numbers (notice named) steps = numbers 5 steps named
ending_numbers spent steps = numbers 6 steps 0

-- The kind of each reply, and its values.
unfoldable pub encode : Reply → Encoded
encode done = numbers 0 0 0
encode (chart inputs boxes) = numbers 1 inputs boxes
encode (running steps) = numbers 2 steps 0
encode (ended steps) = numbers 3 steps 0
encode (ending e steps) = ending_numbers e steps
encode (refused number detail) = numbers 7 number detail
encode (wrote bytes) = numbers 8 bytes 0

-- No two replies have the same numbers, so a promise about the numbers fixes the reply.
abbrev pub EncodesOnce : Type 0
EncodesOnce = (a b : Reply) → encode a ≡ encode b → a ≡ b
