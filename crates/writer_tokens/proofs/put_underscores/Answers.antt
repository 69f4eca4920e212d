-- One underscore more.
use Rattle.byte_slices.specs.Put.{puts_then, puts_none, puts_same}
use Rattle.writer_tokens.specs.Tokens.{underscore}
use Rattle.writer_tokens.proofs.Laws.{once_more}
use Rattle.writer_tokens.proofs.put_underscores.Goals as goal

pub loop-init : goal.loop-init
loop-init c = puts_none

pub loop-preserved : goal.loop-preserved
loop-preserved c = puts_same (once_more c.loop.counter underscore) (puts_then c.loop.invariant c.put_byte-place.ensures)
