-- `reader_numbers::write_assignments` meets its contract, by the callees' contracts and the laws of numbers in a row.
use Rattle.limits.specs.Limits.{clock_limit}
use Rattle.reader_record.specs.Record.{assignment}
use Rattle.reader_numbers.specs.Numbers.{assignment_numbers}
use Rattle.reader_numbers.proofs.Laws.{Written}
use Rattle.reader_numbers.proofs.write_assignments.Given as goal

abbrev pub invariant-loop-k : goal.invariant-loop-k
invariant-loop-k l = Written clock_limit l.at (λ i. assignment_numbers (assignment l.fn.e i)) l.initial.out l.out l.k
