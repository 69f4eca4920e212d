-- first_rows goes row by row: the first s rows are cut and counted.
use Rattle.tables_first.specs.First.{FirstRows}
use Rattle.tables_first.proofs.first_rows.Given as goal

abbrev pub invariant-loop-s : goal.invariant-loop-s
invariant-loop-s l = FirstRows l.lm l.keep l.holds l.masks l.s l.sides.right_states l.sides.steps l.initial.raster
    l.raster l.stamps l.r
