-- The clock, the sign, the constant.
use Rattle.written.specs.Written.{called, comparison_tokens}
use Rattle.writer_tokens.specs.TokenLaws.{tokens_then}
use Rattle.writer_parts.proofs.put_comparison.Goals as goal

pub returns : goal.returns
unfolding comparison_tokens called
returns c =
    tokens_then c.put_named-clock.ensures (tokens_then c.put_sign-sign.ensures
    c.put_decimal.ensures)
