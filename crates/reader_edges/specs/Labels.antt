-- The label of an edge: a channel and its mark, which says input or output (SPECIFICATION 3.1, 3.6).
use Rattle.std.specs.Prelude.{Bool, true, false, cond, not, List, ℕ, ◌+◌, Result, Ok, Err, ◌==◌, if◌then◌else◌, get_or}
use Rattle.reader_tokens.specs.Kinds as kinds
use Rattle.reader_tokens.specs.Tokens.{token_at}
use Rattle.reader_tokens.specs.declared.Token.{Token}
use Rattle.reader_record.specs.Record.{no_channel}
use Rattle.reader_record.specs.declared.Name.{Name}
use Rattle.reader_record.specs.declared.Channel.{Channel}
use Rattle.reader_record.specs.declared.Direction.{Direction}
use Rattle.reader_record.specs.declared.Direction.TheVariants as direction
use Rattle.reader_record.specs.declared.Label.{Label}
use Rattle.reader_record.specs.declared.Label.TheVariants as label
use Rattle.reader_parts.specs.declared.Fault.{Fault}
use Rattle.reader_parts.specs.declared.Fault.TheVariants.{Misfit, OtherMark}
use Rattle.reader_parts.specs.Stages.{◌>>=◌, take}
use Rattle.reader_parts.specs.Names.{use_name}
use Rattle.reader_parts.specs.Slots.{first_channel}
use Rattle.reader_edges.specs.declared.MarkRead.{MarkRead}
use Rattle.reader_edges.specs.declared.LabelRead.{LabelRead}
use Rattle.limits.specs.Limits.{channel_limit}

-- a token that has to be a mark (SPECIFICATION 3.1): whether it is that of an input (SPECIFICATION 3.6)
unfoldable pub mark_of : Token → Result MarkRead Fault
mark_of t =
    if t.kind == kinds.input then Ok (record { input = true; end = t.end })
    else if t.kind == kinds.output then Ok (record { input = false; end = t.end })
    else Err (Misfit t.place)

-- the next token as a mark
unfoldable pub mark_next : List ℕ → ℕ → Result MarkRead Fault
mark_next s p = mark_of (token_at s p)

-- whether a channel that the edges before use in the direction d may have the mark (SPECIFICATION 3.6)
unfoldable pub fits : Direction → Bool → Bool
fits direction.Unused input = true
fits direction.Input input = input
fits direction.Output input = not input

-- past the mark of the channel whose name is at `place`: code 8 where the mark is not right (SPECIFICATION 4.5)
unfoldable pub mark_judged : Bool → ℕ → ℕ → Result ℕ Fault
mark_judged right place p = if right then Ok p else Err (OtherMark place)

-- number 0 among the channels' slots is channel 1 (SPECIFICATION 4.4)
unfoldable pub label_of : Bool → ℕ → Label
label_of input channel = cond input (label.Input (channel + 1)) (label.Output (channel + 1))

-- the label (SPECIFICATION 3.1); `channels` says how the edges before use each channel
unfoldable pub label_next : List ℕ → ℕ → List Name → List Channel → Result LabelRead Fault
label_next s p names channels = do
  a ← take s p kinds.sync
  channel ← use_name s a names first_channel channel_limit false
  mark ← mark_next s channel.end
  b ← mark_judged (fits (get_or channels channel.number no_channel).direction mark.input) channel.place mark.end
  q ← take s b kinds.semicolon
  Ok (record { channel = channel.number; input = mark.input; label = label_of mark.input channel.number; end = q })
