-- `reader_numbers::write_assignments` meets its contract, by the callees' contracts and the laws of numbers in a row.
use native.Mathlib.Omega.{arith}
use Rattle.reader_numbers.specs.Layout.{assignment_size}
use Rattle.reader_numbers.specs.Numbers.{assignments_numbers}
use Rattle.reader_numbers.proofs.Lengths.{assignment_length}
use Rattle.reader_numbers.proofs.Laws.{none_written, one_written, all_written, same_size}
use Rattle.reader_numbers.proofs.write_assignments.Goals as goal

pub loop-k-preserved : goal.loop-k-preserved
loop-k-preserved c =
    let args = c.args in
    let loop = c.loop-k in
    one_written loop.invariant assignment_size (assignment_length args.e) (omega arith) c.write_assignment.ensures

pub returns : goal.returns
unfolding assignments_numbers
returns c = all_written c.loop-k.invariant (omega arith)

pub loop-k-init : goal.loop-k-init
loop-k-init c = none_written

pub shape_of-out : goal.shape_of-out
shape_of-out c = same_size c.loop-k.invariant
