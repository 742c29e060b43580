-- `put_clause` copies the word, and after it the digits.
use Rattle.std.proofs.Common.{◌∙◌, rules}
use Rattle.texts.proofs.Decimals.{decimal_is}
use Rattle.texts.proofs.Fronts.{length-clause, clause_front}
use Rattle.texts.proofs.put_clause.Goals as goal

pub returns-clause-value : goal.returns-clause-value
returns-clause-value c = length-clause _ _ _ (c.format-digits.ensures.text ∙ decimal_is _ (search rules))

pub returns-clause-out_after : goal.returns-clause-out_after
returns-clause-out_after c = clause_front _ _ _ _ _ _ (search rules) (search (rules, decimal_is)) (search rules)
