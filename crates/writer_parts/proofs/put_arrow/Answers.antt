-- The two names, the arrow between them, the brace.
use Rattle.written.specs.Written.{called}
use Rattle.writer_tokens.specs.TokenLaws.{tokens_then}
use Rattle.writer_parts.specs.Parts.{arrow}
use Rattle.writer_parts.proofs.put_arrow.Goals as goal

pub returns : goal.returns
unfolding arrow called
returns c =
    tokens_then c.put_named-from.ensures (tokens_then
    c.put_token-sign.ensures
    (tokens_then c.put_named-to.ensures
    c.put_token.ensures))
