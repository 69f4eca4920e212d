-- is_row gathers what differs: 0 if the bytes so far are the same.
use Rattle.std.specs.Prelude.{◌≡◌}
use Rattle.tables_check.proofs.Rows.{Same}
use Rattle.tables_check.proofs.is_row.Given as goal

abbrev pub invariant-loop-i : goal.invariant-loop-i
invariant-loop-i l = l.changed ≡ 0 → Same l.row l.before l.i
