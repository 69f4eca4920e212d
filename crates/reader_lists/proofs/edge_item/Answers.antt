-- There is room for the edge that is read, and its channel is one of a text; each return is what `edge_item` adds.
use Rattle.std.proofs.Common.{◌≡◌, ◌<◌, false, nat_le, sym, leb-false}
use borrow.Author.Tests.{lt-leb, le-leb}
use Rattle.reader_parts.specs.Binds.{of_ok, beside_ok, beside_err}
use Rattle.reader_edges.specs.Facts.{channel_at, edge_room, stopped_small}
use Rattle.reader_lists.specs.State.{with_edge}
use Rattle.reader_lists.specs.Heads.{head_so_far}
use Rattle.limits.specs.Limits.{channel_limit, edge_limit}
use Rattle.reader_lists.proofs.Laws.{edge_goes, edge_stops, edge_full}
use Rattle.reader_lists.proofs.edge_item.Goals as goal

pub add_edge-requires : goal.add_edge-requires
add_edge-requires c =
    let read = sym (beside_ok _ _ c.in-Ok.ensures) in (
      leb-false edge_limit _ (of_ok (λ r. nat_le edge_limit c.args.r.now.count ≡ false) (edge_room _ _ c.args.at _ _ _) read),
      of_ok (λ r. r.channel < channel_limit) (channel_at _ _ c.args.at _ _ _) read,
    )

pub add_edge-requires-then-not-full : goal.add_edge-requires-then-not-full
add_edge-requires-then-not-full c =
    let (_, read) = beside_err _ _ c.in-Err.ensures in
    (c.if-not-full.true, rw (← read) (stopped_small _ _ _ _ _ _))

pub returns-in-Ok : goal.returns-in-Ok
unfolding with_edge
returns-in-Ok c = λ h init.
    let r = head_so_far c.args.names.now h init c.args.r.now in
    rw c.add_edge.ensures (edge_goes c.args.period _ c.args.at r (beside_ok _ _ c.in-Ok.ensures))

pub returns-then-not-full : goal.returns-then-not-full
unfolding with_edge
returns-then-not-full c = λ h init.
    let r = head_so_far c.args.names.now h init c.args.r.now in
    let (none, read) = beside_err _ _ c.in-Err.ensures in
    let room = lt-leb edge_limit c.args.r.now.count c.if-not-full.true in
    rw c.add_edge-then-not-full.ensures (edge_stops c.args.period _ c.args.at r none read room)

pub returns-else-not-full : goal.returns-else-not-full
returns-else-not-full c = λ h init.
    let r = head_so_far c.args.names.now h init c.args.r.now in
    let (none, _) = beside_err _ _ c.in-Err.ensures in
    edge_full c.args.period _ c.args.at r none (le-leb edge_limit c.args.r.now.count c.if-not-full.false)
