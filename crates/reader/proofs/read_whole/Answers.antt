-- The parts in their order, each from where the one before it came to.
use Rattle.reader_parts.specs.Binds.{err_is}
use Rattle.reader_lists.specs.State.{with_init}
use Rattle.reader.specs.Reading.{init_part, end_part, read_whole}
use Rattle.reader.proofs.read_whole.Goals as goal

pub returns-in_err-r : goal.returns-in_err-r
unfolding read_whole
returns-in_err-r c =
    let r = rw c.in_err-r.was at c.read_head.ensures in
    rw (err_is c.from_residual.result c.from_residual.ensures.1, r)

pub returns-in_err-i : goal.returns-in_err-i
unfolding read_whole init_part
returns-in_err-i c =
    let r = rw c.in_ok-r.was at c.read_head.ensures in
    rw (err_is c.from_residual-in_err-i.result c.from_residual-in_err-i.ensures.1, r, ← c.in_err-i.ensures)

pub returns-in_err-e : goal.returns-in_err-e
unfolding read_whole init_part with_init
returns-in_err-e c =
    let r = rw c.in_ok-r.was at c.read_head.ensures in
    let e = rw c.in_err-e.was at (c.edge_part.ensures c.in_ok-r.r.head c.in_ok-i.i.number) in
    rw (
      err_is c.from_residual-in_err-e.result c.from_residual-in_err-e.ensures.1,
      r,
      ← c.in_ok-i.ensures,
      e,
    )

pub returns-in_err-end_part : goal.returns-in_err-end_part
unfolding read_whole init_part end_part with_init
returns-in_err-end_part c =
    let r = rw c.in_ok-r.was at c.read_head.ensures in
    let e = rw c.in_ok-e.was at (c.edge_part.ensures c.in_ok-r.r.head c.in_ok-i.i.number) in
    rw (
      err_is c.from_residual-in_err-end_part.result c.from_residual-in_err-end_part.ensures.1,
      r,
      ← c.in_ok-i.ensures,
      e,
      ← c.in_err-end_part.ensures,
    )

pub returns : goal.returns
unfolding read_whole init_part end_part with_init
returns c =
    let r = rw c.in_ok-r.was at c.read_head.ensures in
    let e = rw c.in_ok-e.was at (c.edge_part.ensures c.in_ok-r.r.head c.in_ok-i.i.number) in
    rw (r, ← c.in_ok-i.ensures, e, ← c.in_ok-end_part.ensures)
