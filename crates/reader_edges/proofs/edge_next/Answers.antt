-- What the stages keep is what was read of the edge, and the edge itself where the last gives no fault.
use Rattle.std.proofs.Common.{sym, ◌∙◌}
use Rattle.reader_parts.specs.Binds.{err_is, beside_ok, beside_err}
use Rattle.reader_edges.proofs.Parts.{edge_stopped, edge_read}
use Rattle.reader_edges.proofs.edge_next.Goals as goal

pub returns-in_err-end : goal.returns-in_err-end
returns-in_err-end c =
    let (none, read) = beside_err _ _ c.in_err-end.ensures in
    let closed = c.take.ensures in
    let closed = rw (
      c.assigns_kept-assigned.ensures.place,
      c.label_kept-labelled.ensures.place,
      c.guard_kept-guarded.ensures.place,
      c.locations-opened.ensures.place,
    ) at closed in
    rw (
      err_is c.from_residual.result c.from_residual.ensures.1,
      ← read,
      c.assigns_kept-assigned.ensures.kept,
      c.label_kept-labelled.ensures.kept,
      c.guard_kept-guarded.ensures.kept,
      c.locations-opened.ensures.kept,
      c.no_edge-x.ensures,
      c.label_kept-labelled.ensures.place,
      c.guard_kept-guarded.ensures.place,
      c.locations-opened.ensures.place,
    ) (edge_stopped _ _ _ _ _ _ (sym closed ∙ none))

pub returns : goal.returns
returns c =
    let closed = c.take.ensures in
    let closed = rw (
      c.assigns_kept-assigned.ensures.place,
      c.label_kept-labelled.ensures.place,
      c.guard_kept-guarded.ensures.place,
      c.locations-opened.ensures.place,
    ) at closed in
    rw (
      c.assigns_kept-assigned.ensures.kept,
      c.label_kept-labelled.ensures.kept,
      c.guard_kept-guarded.ensures.kept,
      c.locations-opened.ensures.kept,
      c.no_edge-x.ensures,
      c.label_kept-labelled.ensures.place,
      c.guard_kept-guarded.ensures.place,
      c.locations-opened.ensures.place,
    ) (edge_read _ _ _ _ _ _ (sym closed ∙ beside_ok _ _ c.in_ok-end.ensures))
