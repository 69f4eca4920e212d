-- row_step goes from run to run: the row is cut from `from` up to t.
use Rattle.std.specs.Prelude.{◌-◌, ◌≤◌}
use Rattle.tables_ranges.specs.Cut.{Cut}
use Rattle.tables_runs.specs.Runs.{landing}
use Rattle.tables_runs.proofs.row_step.Given as goal

abbrev pub invariant-loop-t : goal.invariant-loop-t
invariant-loop-t l = (l.from ≤ l.t)
    × ((l.t ≤ l.w) × Cut l.from l.t (landing l.source l.rm l.steps l.c) l.initial.row l.row)

abbrev pub decreases-loop-t : goal.decreases-loop-t
decreases-loop-t l = l.w - l.t
