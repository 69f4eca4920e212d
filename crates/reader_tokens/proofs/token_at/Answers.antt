-- `token_at` is `token_at`.
use mathlib.Core.Path.{sym}
use Rattle.reader_tokens.specs.Tokens.{token_at}
use Rattle.reader_tokens.proofs.token_at.Goals as goal

pub returns : goal.returns
unfolding token_at
returns c = rw (sym c.run_end-p.ensures, c.token_from.ensures)
