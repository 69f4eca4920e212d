-- `megzhoi_c::possible` computes the definition.
use borrow.Author.Tests.{ne_eqb}
use Rattle.megzhoi_c.specs.Sizes.{possible}
use Rattle.megzhoi_c.proofs.possible.Goals as goal

pub returns-then-states-eq0 : goal.returns-then-states-eq0
unfolding possible
returns-then-states-eq0 c = rw c.if-states-eq0.true

pub returns : goal.returns
unfolding possible
returns c = rw (ne_eqb c.args.states 0 c.if-states-eq0.false)
