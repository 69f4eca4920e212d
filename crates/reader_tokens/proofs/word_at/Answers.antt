-- `word_at` is `word_at`.
use mathlib.Core.Path.{sym}
use Rattle.reader_tokens.specs.Scan.{is_part}
use Rattle.reader_tokens.specs.Tokens.{word_at}
use Rattle.reader_tokens.specs.Progress.{past_from}
use Rattle.reader_tokens.proofs.word_at.Goals as goal

pub overflow_sub-e : goal.overflow_sub-e
overflow_sub-e c = rw c.run_end-e.ensures (past_from is_part _ _)

pub returns : goal.returns
unfolding word_at
returns c = rw (sym c.run_end-e.ensures, sym c.word_kind-k.ensures)
