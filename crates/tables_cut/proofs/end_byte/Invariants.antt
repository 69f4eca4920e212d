-- end_byte goes back over bytes that are 0.
use Rattle.tables_runs.specs.Runs.{Blank}
use Rattle.tables_cut.proofs.end_byte.Given as goal

abbrev pub invariant-loop-j : goal.invariant-loop-j
invariant-loop-j l = Blank l.row l.j l.b
