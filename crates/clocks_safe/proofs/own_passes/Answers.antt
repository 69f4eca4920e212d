use Rattle.systems.specs.Tests.{lands}
use Rattle.move_tables.specs.MoveLaws.{decode_none, decode_some}
use Rattle.clocks_safe.specs.Test.{own_passes}
use Rattle.clocks_safe.proofs.own_passes.Goals as goal

pub returns-then-input : goal.returns-then-input
unfolding own_passes
returns-then-input c = rw c.if-input.true

pub returns-then-t-eq-NO_TARGET : goal.returns-then-t-eq-NO_TARGET
unfolding own_passes lands
returns-then-t-eq-NO_TARGET c = rw (c.if-input.false, decode_none _ c.if-t-eq-NO_TARGET.true)

pub get-requires : goal.get-requires
get-requires c = c.requires c.if-t-eq-NO_TARGET.false

pub returns : goal.returns
unfolding own_passes lands
returns c = rw (c.if-input.false, decode_some _ c.if-t-eq-NO_TARGET.false) c.get.ensures
