-- `tell` branches where its promise does.
use borrow.Author.Rules.{rules}
use Rattle.runner.specs.Replies.{advance_reply}
use Rattle.runner.proofs.tell.Goals as goal

pub returns-in_err-verdict : goal.returns-in_err-verdict
unfolding advance_reply
returns-in_err-verdict c =
    let was = c.in_err-verdict.was in
    search rules

pub returns-in-None : goal.returns-in-None
unfolding advance_reply
returns-in-None c = rw (c.in_ok-verdict.was, c.in-None.is)

pub returns-then-hidden : goal.returns-then-hidden
unfolding advance_reply
returns-then-hidden c = rw (c.in_ok-verdict.was, c.in-Some.is, c.if-hidden.true)

pub returns-else-hidden : goal.returns-else-hidden
unfolding advance_reply
returns-else-hidden c = rw (c.in_ok-verdict.was, c.in-Some.is, c.if-hidden.false)
