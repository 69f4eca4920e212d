-- settle ends: each round but the last is later than the one before.
use Prim.Native.Nat.{◌+◌, ◌-◌, ◌*◌}
use Rattle.tables_settle.specs.State.{Moved}
use Rattle.tables_settle.proofs.TurnLaws.{Lengths}
use Rattle.tables_settle.proofs.settle.Given as goal

abbrev pub invariant-loop-late : goal.invariant-loop-late
invariant-loop-late l = Lengths l.initial.raster
    l.raster l.initial.seen l.seen l.initial.stamps l.stamps l.initial.row l.row
    × Moved l.lm l.rm l.sides.left_states l.sides.right_states l.sides.steps l.initial.raster l.raster l.seen l.stamps l.initial.late l.late

abbrev pub decreases-loop-late : goal.decreases-loop-late
decreases-loop-late l = 1 + l.sides.left_states * l.sides.right_states - l.late.time
