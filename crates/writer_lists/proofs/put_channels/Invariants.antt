-- The first i channels are put.
use Rattle.writer_tokens.specs.Tokens.{LeftToPut}
use Rattle.written_names.specs.Inside.{names_in}
use Rattle.writer_lists.specs.Lists.{list_left, channel_item}
use Rattle.writer_lists.proofs.put_channels.Given as goal

abbrev pub invariant-loop-i : goal.invariant-loop-i
invariant-loop-i l =
    let item = channel_item (names_in l.s l.channels l.count) in
    LeftToPut l.initial.out l.initial.place (list_left item l.count 1) l.out l.place (list_left item l.count l.i)
