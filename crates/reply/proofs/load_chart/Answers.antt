use Rattle.std.proofs.Common.{rules}
use Rattle.reply.proofs.Responses.{counts}
use Rattle.reply.proofs.load_chart.Goals as goal

pub returns-clause-prefix_len : goal.returns-clause-prefix_len
returns-clause-prefix_len c = search (rules, counts)
