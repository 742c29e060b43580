-- `split_line`, by the place of the first newline.
use Rattle.std.proofs.Common.{◌∙◌, sym, inl, inr}
use Rattle.transcript.specs.Lines.{lines_in}
use Rattle.transcript.proofs.Lines.{found_place, lines_found, lines_not_found, some_last, no_last}
use Rattle.transcript.proofs.split_line.Goals as goal
use Rattle.transcript.proofs.split_line.Goals.{then-over+else-not-is_empty, else-over}

pub returns-in-Some-clause-line : goal.returns-in-Some-clause-line
returns-in-Some-clause-line c =
    lines_found c.args.over c.args.bytes.now c.in-Some.end (found_place c.args.bytes.now _ c.memchr.ensures ∙ c.in-Some.is)

pub returns-in-None-clause-line : goal.returns-in-None-clause-line
unfolding lines_in
returns-in-None-clause-line c =
    lines_not_found c.args.over c.args.bytes.now (found_place c.args.bytes.now _ c.memchr.ensures ∙ c.in-None.is)
    ∙ rw c.if-over.true (some_last c.args.bytes.now (sym c.is_empty.ensures ∙ c.if-not-is_empty.true))

pub returns-in-None-2-clause-line : goal.returns-in-None-2-clause-line
returns-in-None-2-clause-line c =
    lines_not_found c.args.over c.args.bytes.now (found_place c.args.bytes.now _ c.memchr.ensures ∙ c.in-None.is)
    ∙ no_last c.args.over c.args.bytes.now (elim c.if-over.branch [ then-over+else-not-is_empty w ↦ inr (sym w.is_empty.ensures ∙ w.if-not-is_empty.false) | else-over w ↦ inl w.if-over.false ])
