-- `renumber_row` writes a row entry by entry, out of the copy of the row: the first c are those of the row.
use Rattle.pairing.specs.Table.{RowWritten}
use Rattle.pairing.proofs.renumber_row.Given as goal

abbrev pub invariant-loop-c : goal.invariant-loop-c
invariant-loop-c l = RowWritten l.initial.moves l.map l.from l.c l.initial.moves l.moves
