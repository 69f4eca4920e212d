-- The word, the name, the end.
use borrow.Author.Rules.{rules}
use Rattle.written.specs.Written.{called}
use Rattle.writer_tokens.specs.TokenLaws.{tokens_then}
use Rattle.writer.specs.Whole.{init_part}
use Rattle.writer.proofs.put_init.Goals as goal

pub returns : goal.returns
unfolding init_part called
returns c =
    tokens_then c.put_token-word.ensures (tokens_then c.put_named-name.ensures
    c.put_token.ensures)
