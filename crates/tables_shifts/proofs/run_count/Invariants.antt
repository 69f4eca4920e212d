-- run_count goes run by run; each has a state.
use Rattle.std.specs.Prelude.{◌-◌, ◌≤◌}
use Rattle.tables_shifts.proofs.run_count.Given as goal

abbrev pub invariant-loop-t : goal.invariant-loop-t
invariant-loop-t l = (l.r ≤ l.t) × (l.t ≤ l.w)

abbrev pub decreases-loop-t : goal.decreases-loop-t
decreases-loop-t l = l.w - l.t
