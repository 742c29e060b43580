-- What is left of the part is read on to what the part is read as.
use Rattle.std.proofs.Common.{◌≡◌, ◌≤◌, drop}
use Rattle.line.proofs.Digits.{read, number_on}
use Rattle.line.proofs.parsing.number.Given as goal

abbrev pub invariant-loop-b : goal.invariant-loop-b
invariant-loop-b l = record { small : l.value ≤ 4294967295; reads : number_on l.value (drop l.b-index l.part) ≡ read l.part }
