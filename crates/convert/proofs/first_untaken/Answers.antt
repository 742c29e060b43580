use Rattle.std.proofs.Common.{rules}
use Rattle.format.proofs.Search.{found_is}
use Rattle.convert.proofs.first_untaken.Goals as goal

pub returns : goal.returns
returns c = found_is _ _ _ _ c.first_failing.ensures (λ i b e. search rules)
