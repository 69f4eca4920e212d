-- The word, the channel, the mark, the end.
use Rattle.written.specs.Written.{label_tokens}
use Rattle.writer_tokens.specs.TokenLaws.{tokens_then}
use Rattle.writer_parts.proofs.put_label.Goals as goal

pub returns : goal.returns
unfolding label_tokens
returns c =
    tokens_then c.put_token-start.ensures (tokens_then
    (rw c.channel-c.ensures at c.put_channel-name.ensures) (tokens_then c.put_mark-mark.ensures
    c.put_token.ensures))
