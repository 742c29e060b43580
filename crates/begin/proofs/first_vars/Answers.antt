use Rattle.std.proofs.Common.{arith}
use Rattle.begin.proofs.Fill.{vars_copied}
use Rattle.begin.proofs.first_vars.Goals as goal

pub returns : goal.returns
returns c = rw c.copy_from_slice.ensures.after (vars_copied c.args.inputs.now c.min-end.result (omega arith))
