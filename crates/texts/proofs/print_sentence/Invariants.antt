use Rattle.texts.proofs.Fronts.{Holds}
use Rattle.texts.proofs.print_sentence.Given as goal

abbrev pub invariant-loop-word : goal.invariant-loop-word
invariant-loop-word l = Holds l.clauses l.fn.out l.out l.at l.word-index
