-- The name, the mark, LF.
use borrow.Author.Rules.{rules}
use Rattle.byte_slices.specs.Put.{puts_same, puts_then}
use Rattle.printed_lines.specs.Lines.{channel_line}
use Rattle.printed_lines.proofs.put_channel.Goals as goal

pub returns : goal.returns
unfolding channel_line
returns c =
    let marked = puts_same c.mark_of.ensures c.put_byte-marked.ensures in
    puts_then (puts_then c.put_name-spelled.ensures marked) c.put_byte.ensures
