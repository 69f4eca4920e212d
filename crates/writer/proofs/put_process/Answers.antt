-- The word, the name, the brackets.
use borrow.Author.Rules.{rules}
use Rattle.written.specs.Written.{called}
use Rattle.writer_tokens.specs.TokenLaws.{tokens_then}
use Rattle.writer.specs.Whole.{process_part}
use Rattle.writer.proofs.put_process.Goals as goal

pub returns : goal.returns
unfolding process_part called
returns c =
    tokens_then c.put_token-word.ensures
    (tokens_then c.put_named-name.ensures
    (tokens_then c.put_token-open.ensures (tokens_then c.put_token-close.ensures
    c.put_token.ensures)))
