-- hurry keeps the state of the removal, whatever the order.
use Rattle.tables_settle.specs.State.{Moved}
use Rattle.tables_settle.proofs.TurnLaws.{Lengths}
use Rattle.tables_settle.proofs.hurry.Given as goal

abbrev pub invariant-loop : goal.invariant-loop
invariant-loop l =
    Lengths l.initial.raster l.raster l.initial.seen l.seen l.initial.stamps l.stamps l.initial.row l.row
    × Moved l.lm l.rm l.sides.left_states l.sides.right_states l.sides.steps l.initial.raster l.raster l.seen l.stamps
    l.initial.late l.late
