-- `reader_numbers::write_edges` meets its contract, by the callees' contracts and the laws of numbers in a row.
use Rattle.limits.specs.Limits.{edge_limit}
use Rattle.reader_numbers.specs.Layout.{edges_place}
use Rattle.reader_numbers.specs.Numbers.{edge_row}
use Rattle.reader_numbers.proofs.Laws.{Written}
use Rattle.reader_numbers.proofs.write_edges.Given as goal

abbrev pub invariant-loop-i : goal.invariant-loop-i
invariant-loop-i l = Written edge_limit edges_place (edge_row l.fn.edges) l.initial.out l.out l.i
