-- `mark_at` is `mark_at`: a kind below 256 has one byte.
use borrow.Author.Tests.{lt-ltb, le-ltb}
use mathlib.Core.Path.{sym}
use Rattle.reader_tokens.specs.Kinds.{byte_values}
use Rattle.reader_tokens.specs.Tokens.{mark_length, mark_at}
use Rattle.reader_tokens.proofs.mark_at.Goals as goal

pub returns-then-k-lt-BYTE_VALUES : goal.returns-then-k-lt-BYTE_VALUES
unfolding mark_at mark_length
returns-then-k-lt-BYTE_VALUES c = rw (
  sym c.byte_at-a.ensures,
  sym c.byte_at-b.ensures,
  sym
      c.mark_kind-k.ensures,
  lt-ltb _ byte_values c.if-k-lt-BYTE_VALUES.true,
)

pub returns : goal.returns
unfolding mark_at mark_length
returns c = rw (
  sym c.byte_at-a.ensures,
  sym c.byte_at-b.ensures,
  sym
      c.mark_kind-k.ensures,
  le-ltb _ byte_values c.if-k-lt-BYTE_VALUES.false,
)
