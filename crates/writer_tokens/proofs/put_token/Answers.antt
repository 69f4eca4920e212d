-- The bytes, then the space.
use Rattle.writer_tokens.specs.TokenLaws.{token_puts}
use Rattle.writer_tokens.proofs.put_token.Goals as goal

pub returns : goal.returns
returns c =
    token_puts c.put_bytes-end.ensures
    c.put_space.ensures
