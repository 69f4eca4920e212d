-- The part of the text from the place on, as far as the text goes.
use borrow.Author.Rules.{rules}
use Rattle.byte_slices.specs.Put.{puts_same}
use Rattle.printed_lines.proofs.Laws.{part_of}
use Rattle.printed_lines.proofs.put_name.Goals as goal

pub returns : goal.returns
returns c =
    let args = c.args in
    let start = c.min-start in
    let end = c.min-end in
    puts_same (part_of args.name.place args.name.len args.text.now start.ensures end.ensures)
    c.put_bytes.ensures
