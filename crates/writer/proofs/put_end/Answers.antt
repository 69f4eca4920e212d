-- The bracket, the word, the name.
use borrow.Author.Rules.{rules}
use Rattle.written.specs.Written.{called}
use Rattle.writer_tokens.specs.TokenLaws.{tokens_then}
use Rattle.writer.specs.Whole.{end_part}
use Rattle.writer.proofs.put_end.Goals as goal

pub returns : goal.returns
unfolding end_part called
returns c =
    tokens_then c.put_token-close.ensures (tokens_then c.put_token-word.ensures
    c.put_named.ensures)
