-- turn leaves a quiet row alone; a row that lost pairs is stamped.
use Rattle.std.proofs.Common.{arith}
use Rattle.tables_settle.proofs.TurnLaws.{turn_quiet, turn_still, turn_fewer, lost_most, time_few}
use Rattle.tables_settle.proofs.turn.Goals as goal

pub returns-then-not-is_due : goal.returns-then-not-is_due
returns-then-not-is_due c = turn_quiet c.requires.0.state (c.is_due.ensures c.if-not-is_due.true)

pub visit-lost-requires : goal.visit-lost-requires
visit-lost-requires c =
    let pre = c.requires in
    (pre.0.tables, (pre.1, (pre.0.rooms.changed, (pre.0.rooms.raster, pre.0.rooms.row_room))))

pub returns-then-lost-eq0 : goal.returns-then-lost-eq0
returns-then-lost-eq0 c =
    let pre = c.requires in
    turn_still pre.0.tables.left pre.0.tables.right pre.0.rooms.wide pre.1 pre.0.rooms.looked c.visit-lost.ensures
    pre.0.state c.if-lost-eq0.true

pub overflow_add-time : goal.overflow_add-time
overflow_add-time c =
    let pre = c.requires in
    record { fits = omega (arith, time_few pre.0.tables.left pre.0.tables.right pre.0.state) }

pub offset_bounds-stamps-s : goal.offset_bounds-stamps-s
offset_bounds-stamps-s c = omega (arith, c.requires.1, c.requires.0.tables.left.few)

pub bounds-stamps-s : goal.bounds-stamps-s
bounds-stamps-s c = omega (arith, c.requires.1, c.requires.0.rooms.changed)

pub overflow_sub-count : goal.overflow_sub-count
overflow_sub-count c = omega (arith, lost_most c.requires.1 c.visit-lost.ensures c.requires.0.state)

pub returns : goal.returns
returns c =
    let pre = c.requires in
    let lost = c.visit-lost.ensures in
    turn_fewer pre.0.tables.left pre.0.tables.right pre.0.rooms.wide pre.1 pre.0.rooms.looked lost pre.0.state
    pre.0.rooms.changed _ (omega arith) (omega arith) (omega arith) (omega (arith, lost_most pre.1 lost pre.0.state))
    c.if-lost-eq0.false
