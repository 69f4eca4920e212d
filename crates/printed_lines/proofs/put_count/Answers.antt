-- The word, a space and the number, LF.
use borrow.Author.Rules.{rules}
use Rattle.printed_lines.specs.Lines.{line, spaced}
use Rattle.printed_lines.proofs.Laws.{one_number}
use Rattle.byte_slices.specs.Put.{puts_none, puts_then}
use Rattle.printed_lines.proofs.put_count.Goals as goal

pub returns : goal.returns
unfolding line spaced
returns c =
    let args = c.args in record {
      puts = puts_then (puts_then c.put_bytes-behind.ensures (puts_then c.put_spaced-end.ensures.puts puts_none))
          c.put_byte.ensures;
      short = one_number args.word.now args.n c.put_spaced-end.ensures.short;
    }
