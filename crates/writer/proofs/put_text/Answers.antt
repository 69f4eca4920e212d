-- The tokens but the last, then the last one and the line feed.
use borrow.Author.Rules.{rules}
use mathlib.Core.Path.{ap}
use Rattle.reader_tokens.specs.Scan.{bytes}
use Rattle.byte_slices.specs.Put.{puts_same}
use Rattle.written.specs.Spaced.{spaced_tokens}
use Rattle.written.specs.Written.{written_with}
use Rattle.written_names.specs.Spelled.{channel_spellings}
use Rattle.writer_tokens.specs.TokenLaws.{text_puts}
use Rattle.writer.specs.Whole.{text_but_last}
use Rattle.writer.specs.WholeLaws.{but_last}
use Rattle.writer.proofs.put_text.Goals as goal

pub returns : goal.returns
unfolding written_with
returns c =
    let args = c.args in
    let names = channel_spellings args.s.now args.t in
    puts_same (ap spaced_tokens (but_last names args.u args.t))
    (text_puts (text_but_last names args.u args.t) (bytes ";")
    c.put_but_last-place.ensures
    c.put_bytes.ensures)
