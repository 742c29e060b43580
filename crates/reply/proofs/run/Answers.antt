-- `run` begins, and hands back the refusal or advances to the end and answers.
use Rattle.std.proofs.Common.{◌≡◌, Err, ap, ◌∙◌, rules}
use Rattle.runner.specs.Replies.{answer_reply}
use Rattle.reply.proofs.Responses.{refuses, runs}
use Rattle.reply.proofs.run.Goals as goal

pub returns-in_err-begun : goal.returns-in_err-begun
returns-in_err-begun c =
    let same : c.from_residual.result ≡ Err c.in_err-begun.field-0.0 = search rules in
    ap answer_reply same ∙ refuses c.args.numbers.now c.args.runner _ _ c.begin-begun.ensures _ c.in_err-begun.was

pub returns : goal.returns
returns c = runs c.args.numbers.now c.args.runner _ _ c.begin-begun.ensures _ c.in_ok-begun.was _ _ c.advance.ensures _ c.answer.ensures
