-- The edges are read, whatever the head and the starting location are.
use Rattle.std.proofs.Common.{◌≡◌, true, false, sym, ◌∙◌}
use Rattle.reader_parts.specs.Binds.{err_is}
use Rattle.reader_lists.specs.State.{next_token}
use Rattle.reader.specs.Reading.{list_part}
use Rattle.reader.proofs.edge_part.Goals as goal

pub returns-then-not-ahead : goal.returns-then-not-ahead
unfolding list_part
returns-then-not-ahead c = λ h init.
    let none : c.ahead.result ≡ false = c.if-not-ahead.true in
    rw (sym c.ahead.ensures ∙ none, c.no_edges.ensures)

pub returns-in_err-a : goal.returns-in_err-a
unfolding list_part next_token
returns-in_err-a c = λ h init.
    let some : c.ahead.result ≡ true = c.if-not-ahead.false in
    rw (
      err_is c.from_residual.result c.from_residual.ensures.1,
      sym c.ahead.ensures ∙ some,
      ← c.in_err-a.ensures,
    )

pub returns-in_err-edges : goal.returns-in_err-edges
unfolding list_part next_token
returns-in_err-edges c = λ h init.
    let some : c.ahead.result ≡ true = c.if-not-ahead.false in
    let read = rw c.in_err-edges.was at c.edges.ensures.read h init in
    rw (
      err_is c.from_residual-in_err-edges.result c.from_residual-in_err-edges.ensures.1,
      sym c.ahead.ensures ∙ some,
      ← c.in_ok-a.ensures,
      read,
    )

pub returns : goal.returns
unfolding list_part next_token
returns c = λ h init.
    let some : c.ahead.result ≡ true = c.if-not-ahead.false in
    let read = rw c.in_ok-edges.was at c.edges.ensures.read h init in
    rw (
      sym c.ahead.ensures ∙ some,
      ← c.in_ok-a.ensures,
      read,
    )
