-- What is left of the parts is read on to what the line is read as, from the numbers so far.
use Rattle.std.proofs.Common.{length}
use Rattle.line.proofs.Parsed.{Reads}
use Rattle.line.proofs.parsing.parse.Given as goal

abbrev pub invariant-loop-part : goal.invariant-loop-part
invariant-loop-part l = Reads l.line l.numbers l.count (length l.yielded)
