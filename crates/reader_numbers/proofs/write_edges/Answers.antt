-- `reader_numbers::write_edges` meets its contract, by the callees' contracts and the laws of numbers in a row.
use native.Mathlib.Omega.{arith}
use Rattle.reader_numbers.specs.Layout.{edge_size}
use Rattle.reader_numbers.proofs.Lengths.{edge_length}
use Rattle.reader_numbers.proofs.Laws.{none_written, one_written, all_written, same_size}
use Rattle.reader_numbers.proofs.write_edges.Goals as goal

pub loop-i-preserved : goal.loop-i-preserved
loop-i-preserved c =
    let t = c.args.edges in
    let loop = c.loop-i in
    one_written loop.invariant edge_size (edge_length t) (omega arith) c.write_edge.ensures

pub loop-i-init : goal.loop-i-init
loop-i-init c = none_written

pub shape_of-out : goal.shape_of-out
shape_of-out c = same_size c.loop-i.invariant

pub returns : goal.returns
returns c = all_written c.loop-i.invariant (omega arith)
