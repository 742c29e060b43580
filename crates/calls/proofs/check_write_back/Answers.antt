-- `check_write_back` tests in the definition's order.
use Rattle.std.specs.Prelude.{Err}
use mathlib.Core.Path.{ap, sym, ◌∙◌}
use native.Mathlib.Omega.{arith}
use Rattle.calls.proofs.Refusals.{tells_none, tells_short, tells_room}
use Rattle.calls.proofs.check_write_back.Goals as goal

pub returns-then-not-in_range : goal.returns-then-not-in_range
returns-then-not-in_range c = ap Err c.into.ensures ∙ tells_none _ _ (sym c.in_range.ensures ∙ c.if-not-in_range.true)

pub returns-then-buffer-file_length : goal.returns-then-buffer-file_length
returns-then-buffer-file_length c =
    let size = c.file_length.ensures in
    ap Err c.into-then-buffer-file_length.ensures ∙ tells_short _ _ (sym c.in_range.ensures ∙ c.if-not-in_range.false) (omega arith)

pub returns : goal.returns
returns c =
    let size = c.file_length.ensures in
    tells_room _ _ (sym c.in_range.ensures ∙ c.if-not-in_range.false) (omega arith)
