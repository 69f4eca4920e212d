-- cut_row goes step by step: the row is cut by those before c that lead to a row which has changed.
use Rattle.tables_runs.specs.Runs.{Within}
use Rattle.tables_visit.specs.Visit.{LookedAt}
use Rattle.tables_visit.proofs.cut_row.Given as goal

abbrev pub invariant-loop-c : goal.invariant-loop-c
invariant-loop-c l = Within l.sides.right_states l.row l.span.from l.span.to
    × LookedAt l.lm l.rm l.stamps l.sides.right_states l.sides.steps l.s l.seen l.raster l.c l.row
