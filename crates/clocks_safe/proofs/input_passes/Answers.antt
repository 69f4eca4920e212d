use Rattle.systems.specs.Tests.{◌⇒◌, stays}
use Rattle.move_tables.specs.MoveLaws.{decode_none, decode_some}
use Rattle.clocks_safe.specs.Test.{input_passes}
use Rattle.clocks_safe.proofs.input_passes.Goals as goal

pub returns-then-not-input : goal.returns-then-not-input
unfolding input_passes ◌⇒◌
returns-then-not-input c = rw c.if-not-input.true

pub returns-then-t-eq-NO_TARGET : goal.returns-then-t-eq-NO_TARGET
unfolding input_passes ◌⇒◌ stays
returns-then-t-eq-NO_TARGET c =
    let args = c.args in
    rw (c.if-not-input.false, decode_none _ c.if-t-eq-NO_TARGET.true)

pub get-requires : goal.get-requires
get-requires c = c.requires c.if-t-eq-NO_TARGET.false

pub returns : goal.returns
unfolding input_passes ◌⇒◌ stays
returns c =
    let args = c.args in
    rw (c.if-not-input.false, decode_some _ c.if-t-eq-NO_TARGET.false) c.get.ensures
