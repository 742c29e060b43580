-- No operation stops a run: an assignment's act is a store, by computing it. Assumes nothing.
use mathlib.Core.Path.{refl}
use Rattle.decode.specs.Decode.{meaning}
use Rattle.machine.specs.Act.{act_by}
use Rattle.run_claims.specs.Boxes.{NoOperationStops}

pub no_operation_stops : NoOperationStops
unfolding act_by meaning
no_operation_stops =
    (λ t op i j next k edition mode vars marks counter. (_, _, refl), λ t c i j next x y edition mode vars marks counter. (_, _, refl))
