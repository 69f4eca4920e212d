-- step_ok goes by whether the left and the right have the move.
use Rattle.systems.specs.Tests.{stays, lands}
use Rattle.move_tables.specs.MoveLaws.{decode_none, decode_some}
use Rattle.tables_cut.specs.Rule.{ok_of}
use Rattle.tables_check.proofs.step_ok.Goals as goal

pub returns-then-u-eq-NO_TARGET : goal.returns-then-u-eq-NO_TARGET
unfolding ok_of stays
returns-then-u-eq-NO_TARGET c = rw (decode_none _ c.if-u-eq-NO_TARGET.true)

pub returns-then-v-eq-NO_TARGET : goal.returns-then-v-eq-NO_TARGET
unfolding ok_of stays lands
returns-then-v-eq-NO_TARGET c =
    let if1 = c.if-u-eq-NO_TARGET in
    rw (decode_some _ if1.false, decode_none _ c.if-v-eq-NO_TARGET.true)

pub returns : goal.returns
unfolding ok_of stays lands
returns c =
    let if1 = c.if-u-eq-NO_TARGET in
    let if2 = c.if-v-eq-NO_TARGET in
    rw (decode_some _ if1.false, decode_some _ if2.false) c.is_set.ensures
