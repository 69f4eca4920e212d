-- `reader_numbers::write_channels` meets its contract, by the callees' contracts and the laws of numbers in a row.
use native.Mathlib.Omega.{arith}
use Rattle.reader_numbers.specs.Layout.{channel_size}
use Rattle.reader_numbers.proofs.Lengths.{channel_length}
use Rattle.reader_numbers.proofs.Laws.{none_written, one_written, all_written, same_size}
use Rattle.reader_numbers.proofs.write_channels.Goals as goal

pub loop-i-preserved : goal.loop-i-preserved
loop-i-preserved c =
    let t = c.args.channels in
    let loop = c.loop-i in
    one_written loop.invariant channel_size (channel_length t) (omega arith) c.write_channel.ensures

pub loop-i-init : goal.loop-i-init
loop-i-init c = none_written

pub shape_of-out : goal.shape_of-out
shape_of-out c = same_size c.loop-i.invariant

pub returns : goal.returns
returns c = all_written c.loop-i.invariant (omega arith)
