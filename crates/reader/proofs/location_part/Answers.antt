-- The locations are read, whatever the rest of the record is.
use Rattle.reader_parts.specs.Binds.{err_is}
use Rattle.reader_lists.specs.State.{next_token}
use Rattle.reader.specs.Reading.{location_part}
use Rattle.reader.proofs.location_part.Goals as goal

pub returns-in_err-a : goal.returns-in_err-a
unfolding location_part next_token
returns-in_err-a c = λ init edges count.
    rw (err_is c.from_residual.result c.from_residual.ensures.1, ← c.in_err-a.ensures)

pub returns-in_err-named_items : goal.returns-in_err-named_items
unfolding location_part next_token
returns-in_err-named_items c = λ init edges count.
    let read = rw c.in_err-named_items.was at c.named_items.ensures.read init edges count in
    rw (
      err_is c.from_residual-in_err-named_items.result c.from_residual-in_err-named_items.ensures.1,
      ← c.in_ok-a.ensures,
      read,
    )

pub returns : goal.returns
unfolding location_part next_token
returns c = λ init edges count.
    let read = rw c.in_ok-named_items.was at c.named_items.ensures.read init edges count in
    rw (
      ← c.in_ok-a.ensures,
      read,
    )
