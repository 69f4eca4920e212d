-- Nothing, or an assignment.
use borrow.Author.Tests.{not-true, not-false}
use Rattle.written.specs.Written.{called}
use Rattle.writer_tokens.specs.TokenLaws.{tokens_none, tokens_then}
use Rattle.writer_parts.specs.Parts.{assignment_step}
use Rattle.writer_parts.proofs.put_assignment.Goals as goal

pub returns-then-not-a : goal.returns-then-not-a
unfolding assignment_step
returns-then-not-a c = rw (not-true c.args.a.made c.if-not-a.true) tokens_none

pub returns : goal.returns
unfolding assignment_step called
returns c =
    rw (not-false c.args.a.made c.if-not-a.false)
    (tokens_then c.put_lead-start.ensures
    (tokens_then c.put_named-clock.ensures
    (tokens_then c.put_token-sign.ensures c.put_decimal.ensures)))
