-- The name, then the space.
use Rattle.writer_tokens.specs.TokenLaws.{token_puts}
use Rattle.writer_tokens.proofs.put_named.Goals as goal

pub returns : goal.returns
returns c =
    token_puts c.put_name-end.ensures
    c.put_space.ensures
