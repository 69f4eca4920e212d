-- Each return is a turn of `items_from`, at the items from here on, and what stands beside a fault one of
-- `items_so_far_from`.
use Rattle.std.proofs.Common.{◌≡◌, ◌+◌, ◌-◌, arith, refl, sym}
use borrow.Author.Tests.{not-true, not-false}
use Rattle.reader_lists.specs.Lists.{Item}
use Rattle.reader_lists.specs.Lists.{items_from, items}
use Rattle.reader_lists.specs.SoFar.{items_so_far_from, items_so_far}
use Rattle.reader_lists.specs.Heads.{none_so_far}
use Rattle.limits.specs.Limits.{edge_limit}
use Rattle.reader_lists.proofs.Laws.{room_left, list_refused, turn_so_far, list_ends, list_goes_on, more_so_far, edges_lead}
use Rattle.reader_lists.proofs.edges.Goals as goal

pub loop-init : goal.loop-init
unfolding items items_so_far
loop-init c = rw c.none_so_far-q.ensures (record { reads = λ h init. refl; stops = λ h init. refl })

pub returns-then-not-t-clause-read : goal.returns-then-not-t-clause-read
returns-then-not-t-clause-read c =
    let room = room_left edge_limit c.loop.counter c.loop-test.true in
    rw c.edges_at.ensures
    (edges_lead (items c.args.period Item.Edge _) _ (none_so_far c.args.channels) c.args.at _ (λ h init.
    rw (← c.loop.invariant.reads h init, room)
    (list_ends _ _ _ _ _ _ _ _ (c.edge_item-item.ensures h init) (sym c.in-Ok.ensures) (not-true _ c.if-not-t.true))))

pub returns-in-Err-clause-read : goal.returns-in-Err-clause-read
returns-in-Err-clause-read c =
    let room = room_left edge_limit c.loop.counter c.loop-test.true in
    edges_lead (items c.args.period Item.Edge _) _ (none_so_far c.args.channels) c.args.at _ (λ h init.
    rw (← c.loop.invariant.reads h init, room)
    (list_refused _ _ _ _ _ _ _ _ (c.edge_item-item.ensures h init) (sym c.in-Err.ensures)))

pub returns-in-Err-clause-beside : goal.returns-in-Err-clause-beside
returns-in-Err-clause-beside c = λ h init.
    let room = room_left edge_limit c.loop.counter c.loop-test.true in
    rw (← c.loop.invariant.stops h init, room)
    (turn_so_far _ _ _ _ _ _ _ _ (c.edge_item-item.ensures h init) (sym c.in-Err.ensures))

pub loop-preserved : goal.loop-preserved
loop-preserved c =
    let room = room_left edge_limit c.loop.counter c.loop-test.true in
    record {
      reads = λ h init. rw (
        ← c.loop.invariant.reads h init,
        room,
        list_goes_on c.args.period Item.Edge _ (edge_limit - (c.loop.counter + 1)) _ _ _ _ (c.edge_item-item.ensures h init) (sym c.in-Ok.ensures) (not-false _ c.if-not-t.false),
      );
      stops = λ h init. rw (
        ← c.loop.invariant.stops h init,
        room,
        more_so_far c.args.period Item.Edge _ (edge_limit - (c.loop.counter + 1)) _ _ _ _ (c.edge_item-item.ensures h init) (sym c.in-Ok.ensures) (not-false _ c.if-not-t.false),
      );
    }

pub returns-in-Ok-edge_item-clause-read : goal.returns-in-Ok-edge_item-clause-read
unfolding items_from
returns-in-Ok-edge_item-clause-read c =
    let none : edge_limit - c.loop.counter ≡ 0 = omega (arith, c.loop-test.false) in
    rw c.edges_at-in-Ok-edge_item.ensures
    (edges_lead (items c.args.period Item.Edge _) _ (none_so_far c.args.channels) c.args.at _ (λ h init.
    let g = rw c.in-Ok-edge_item.is at c.edge_item.ensures h init in
    rw (← c.loop.invariant.reads h init, none) g.reads))

pub returns-in-Err-edge_item-clause-read : goal.returns-in-Err-edge_item-clause-read
unfolding items_from
returns-in-Err-edge_item-clause-read c =
    let none : edge_limit - c.loop.counter ≡ 0 = omega (arith, c.loop-test.false) in
    edges_lead (items c.args.period Item.Edge _) _ (none_so_far c.args.channels) c.args.at _ (λ h init.
    let g = rw c.in-Err-edge_item.is at c.edge_item.ensures h init in
    rw (← c.loop.invariant.reads h init, none) g.reads)

pub returns-in-Err-edge_item-clause-beside : goal.returns-in-Err-edge_item-clause-beside
unfolding items_so_far_from
returns-in-Err-edge_item-clause-beside c = λ h init.
    let none : edge_limit - c.loop.counter ≡ 0 = omega (arith, c.loop-test.false) in
    let g = c.edge_item.ensures h init in
    rw (← c.loop.invariant.stops h init, none) g.stops
