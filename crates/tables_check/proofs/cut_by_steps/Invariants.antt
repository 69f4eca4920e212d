-- cut_by_steps goes from step to step: what is left after each breaks no rule at those before.
use Rattle.tables_runs.specs.Runs.{Within}
use Rattle.tables_check.specs.Scan.{Sifted}
use Rattle.tables_check.proofs.cut_by_steps.Given as goal

abbrev pub invariant-loop-step : goal.invariant-loop-step
invariant-loop-step l = Sifted l.lm l.rm l.sides.right_states l.sides.steps l.raster l.s l.step l.initial.row l.row
    × Within l.sides.right_states l.row l.span.from l.span.to
