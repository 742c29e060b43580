-- `at_rest` tests in the definition's order.
use mathlib.Core.Path.{ap, sym, ◌∙◌}
use Rattle.std.specs.Prelude.{Err}
use Rattle.calls.proofs.Refusals.{tells_no_chart, tells_busy, tells_rest}
use Rattle.calls.proofs.at_rest.Goals as goal

pub returns-then-not-in_range : goal.returns-then-not-in_range
returns-then-not-in_range c =
    ap Err c.into.ensures
    ∙ tells_no_chart c.args.standing (sym c.in_range.ensures ∙ c.if-not-in_range.true)

pub returns-then-standing : goal.returns-then-standing
returns-then-standing c =
    ap Err c.into-then-standing.ensures
    ∙ tells_busy c.args.standing (sym c.in_range.ensures ∙ c.if-not-in_range.false) c.if-standing.true

pub returns : goal.returns
returns c = tells_rest c.args.standing (sym c.in_range.ensures ∙ c.if-not-in_range.false) c.if-standing.false
