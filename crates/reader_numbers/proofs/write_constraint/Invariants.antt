-- `reader_numbers::write_constraint` meets its contract, by the callees' contracts and the laws of numbers in a row.
use Prim.Native.Nat.{◌+◌}
use Rattle.reader_record.specs.Record.{comparison}
use Rattle.limits.specs.Limits.{comparison_limit}
use Rattle.reader_numbers.specs.Numbers.{comparison_numbers}
use Rattle.reader_numbers.proofs.Laws.{Written}
use Rattle.reader_numbers.proofs.write_constraint.Given as goal

abbrev pub invariant-loop-i : goal.invariant-loop-i
invariant-loop-i l = Written comparison_limit (l.at + 1) (λ k. comparison_numbers (comparison l.fn.g k)) l.initial.out l.out l.i
