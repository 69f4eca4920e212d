-- The channels are read, whatever the rest of the record is.
use Rattle.std.proofs.Common.{◌≡◌, true, false, sym, ◌∙◌}
use Rattle.reader_parts.specs.Binds.{err_is}
use Rattle.reader_lists.specs.State.{next_token}
use Rattle.reader.specs.Reading.{channel_part}
use Rattle.reader.proofs.channel_part.Goals as goal

pub returns-then-not-ahead : goal.returns-then-not-ahead
unfolding channel_part
returns-then-not-ahead c = λ init edges count.
    let none : c.ahead.result ≡ false = c.if-not-ahead.true in
    rw (sym c.ahead.ensures ∙ none)

pub returns-in_err-a : goal.returns-in_err-a
unfolding channel_part next_token
returns-in_err-a c = λ init edges count.
    let some : c.ahead.result ≡ true = c.if-not-ahead.false in
    rw (
      err_is c.from_residual.result c.from_residual.ensures.1,
      sym c.ahead.ensures ∙ some,
      ← c.in_err-a.ensures,
    )

pub returns-in_err-b : goal.returns-in_err-b
unfolding channel_part next_token
returns-in_err-b c = λ init edges count.
    let some : c.ahead.result ≡ true = c.if-not-ahead.false in
    rw (
      err_is c.from_residual-in_err-b.result c.from_residual-in_err-b.ensures.1,
      sym c.ahead.ensures ∙ some,
      ← c.in_ok-a.ensures,
      ← c.in_err-b.ensures,
    )

pub returns-in_err-named_items : goal.returns-in_err-named_items
unfolding channel_part next_token
returns-in_err-named_items c = λ init edges count.
    let some : c.ahead.result ≡ true = c.if-not-ahead.false in
    let read = rw c.in_err-named_items.was at c.named_items.ensures.read init edges count in
    rw (
      err_is c.from_residual-in_err-named_items.result c.from_residual-in_err-named_items.ensures.1,
      sym c.ahead.ensures ∙ some,
      ← c.in_ok-a.ensures,
      ← c.in_ok-b.ensures,
      read,
    )

pub returns : goal.returns
unfolding channel_part next_token
returns c = λ init edges count.
    let some : c.ahead.result ≡ true = c.if-not-ahead.false in
    let read = rw c.in_ok-named_items.was at c.named_items.ensures.read init edges count in
    rw (
      sym c.ahead.ensures ∙ some,
      ← c.in_ok-a.ensures,
      ← c.in_ok-b.ensures,
      read,
    )
