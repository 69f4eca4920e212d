-- sweep goes from the last row to the first: if nothing changed, the rows from s on are quiet.
use Rattle.tables_settle.specs.State.{Swept}
use Rattle.tables_settle.proofs.TurnLaws.{Lengths}
use Rattle.tables_settle.proofs.sweep.Given as goal

abbrev pub invariant-loop-s : goal.invariant-loop-s
invariant-loop-s l =
    Lengths l.initial.raster l.raster l.initial.seen l.seen l.initial.stamps l.stamps l.initial.row l.row
    × Swept l.lm l.rm l.sides.left_states l.sides.right_states l.sides.steps l.s l.initial.raster l.raster l.seen
    l.stamps l.initial.late l.late
