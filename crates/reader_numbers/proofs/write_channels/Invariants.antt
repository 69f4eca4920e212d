-- `reader_numbers::write_channels` meets its contract, by the callees' contracts and the laws of numbers in a row.
use Rattle.limits.specs.Limits.{channel_limit}
use Rattle.reader_numbers.specs.Layout.{channels_place}
use Rattle.reader_numbers.specs.Numbers.{channel_row}
use Rattle.reader_numbers.proofs.Laws.{Written}
use Rattle.reader_numbers.proofs.write_channels.Given as goal

abbrev pub invariant-loop-i : goal.invariant-loop-i
invariant-loop-i l = Written channel_limit channels_place (channel_row l.fn.channels) l.initial.out l.out l.i
