-- A comma, or the word that opens the assignments.
use Rattle.writer_parts.proofs.put_lead.Goals as goal

pub returns-then-some : goal.returns-then-some
returns-then-some c = rw c.if-some.true c.put_token.ensures

pub returns : goal.returns
returns c = rw c.if-some.false c.put_token-2.ensures
