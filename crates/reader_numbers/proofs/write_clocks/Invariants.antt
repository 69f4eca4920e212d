-- `reader_numbers::write_clocks` meets its contract, by the callees' contracts and the laws of numbers in a row.
use Rattle.limits.specs.Limits.{clock_limit}
use Rattle.reader_numbers.specs.Layout.{clocks_place}
use Rattle.reader_numbers.specs.Numbers.{clock_row}
use Rattle.reader_numbers.proofs.Laws.{Written}
use Rattle.reader_numbers.proofs.write_clocks.Given as goal

abbrev pub invariant-loop-i : goal.invariant-loop-i
invariant-loop-i l = Written clock_limit clocks_place (clock_row l.fn.clocks) l.initial.out l.out l.i
