-- The underscores, the letter, the number.
use Rattle.byte_slices.specs.Put.{puts_then}
use Rattle.writer_tokens.proofs.put_name.Goals as goal

pub returns : goal.returns
returns c =
    puts_then c.put_underscores-start.ensures (puts_then c.put_byte-behind.ensures
    c.put_number.ensures)
