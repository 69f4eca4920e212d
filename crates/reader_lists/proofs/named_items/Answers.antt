-- Each return is a turn of `items_from`, at the items from here on, and what stands beside a fault one of
-- `items_so_far_from`.
use Rattle.std.proofs.Common.{◌≡◌, ◌+◌, ◌-◌, arith, refl, sym}
use borrow.Author.Tests.{not-true, not-false}
use Rattle.reader_lists.specs.Lists.{limit, items_from, items}
use Rattle.reader_lists.specs.Turns.{item}
use Rattle.reader_lists.specs.SoFar.{items_so_far_from, items_so_far}
use Rattle.reader_lists.specs.Heads.{held}
use Rattle.reader_lists.proofs.Laws.{room_left, list_refused, turn_so_far, list_ends, list_goes_on, more_so_far, head_leads}
use Rattle.reader_lists.proofs.named_items.Goals as goal

pub loop-init : goal.loop-init
unfolding items items_so_far
loop-init c =
    let all : limit (item c.args.k) - 0 ≡ limit (item c.args.k) = omega arith in
    rw all (record { reads = λ init edges count. refl; stops = λ init edges count. refl })

pub returns-then-not-t-clause-read : goal.returns-then-not-t-clause-read
returns-then-not-t-clause-read c =
    let room = room_left (limit (item c.args.k)) c.loop.counter (rw c.limit-end.ensures at c.loop-test.true) in
    rw c.head_at.ensures
    (head_leads (items c.args.period (item c.args.k) _) (held c.args.r) c.args.at _ (λ init edges count.
    rw (← c.loop.invariant.reads init edges count, room)
    (list_ends _ _ _ _ _ _ _ _ (c.named_item-item.ensures init edges count) (sym c.in-Ok.ensures) (not-true _ c.if-not-t.true))))

pub returns-in-Err-clause-read : goal.returns-in-Err-clause-read
returns-in-Err-clause-read c =
    let room = room_left (limit (item c.args.k)) c.loop.counter (rw c.limit-end.ensures at c.loop-test.true) in
    head_leads (items c.args.period (item c.args.k) _) (held c.args.r) c.args.at _ (λ init edges count.
    rw (← c.loop.invariant.reads init edges count, room)
    (list_refused _ _ _ _ _ _ _ _ (c.named_item-item.ensures init edges count) (sym c.in-Err.ensures)))

pub returns-in-Err-clause-beside : goal.returns-in-Err-clause-beside
returns-in-Err-clause-beside c = λ init edges count.
    let room = room_left (limit (item c.args.k)) c.loop.counter (rw c.limit-end.ensures at c.loop-test.true) in
    rw (← c.loop.invariant.stops init edges count, room)
    (turn_so_far _ _ _ _ _ _ _ _ (c.named_item-item.ensures init edges count) (sym c.in-Err.ensures))

pub loop-preserved : goal.loop-preserved
loop-preserved c =
    let room = room_left (limit (item c.args.k)) c.loop.counter (rw c.limit-end.ensures at c.loop-test.true) in
    record {
      reads = λ init edges count. rw (
        ← c.loop.invariant.reads init edges count,
        room,
        list_goes_on c.args.period (item c.args.k) _ (limit (item c.args.k) - (c.loop.counter + 1)) _ _ _ _ (c.named_item-item.ensures init edges count) (sym c.in-Ok.ensures) (not-false _ c.if-not-t.false),
      );
      stops = λ init edges count. rw (
        ← c.loop.invariant.stops init edges count,
        room,
        more_so_far c.args.period (item c.args.k) _ (limit (item c.args.k) - (c.loop.counter + 1)) _ _ _ _ (c.named_item-item.ensures init edges count) (sym c.in-Ok.ensures) (not-false _ c.if-not-t.false),
      );
    }

pub returns-in-Ok-named_item-clause-read : goal.returns-in-Ok-named_item-clause-read
unfolding items_from
returns-in-Ok-named_item-clause-read c =
    let none : limit (item c.args.k) - c.loop.counter ≡ 0 = omega (arith, rw c.limit-end.ensures at c.loop-test.false) in
    rw c.head_at-in-Ok-named_item.ensures
    (head_leads (items c.args.period (item c.args.k) _) (held c.args.r) c.args.at _ (λ init edges count.
    let g = rw c.in-Ok-named_item.is at c.named_item.ensures init edges count in
    rw (← c.loop.invariant.reads init edges count, none) g.reads))

pub returns-in-Err-named_item-clause-read : goal.returns-in-Err-named_item-clause-read
unfolding items_from
returns-in-Err-named_item-clause-read c =
    let none : limit (item c.args.k) - c.loop.counter ≡ 0 = omega (arith, rw c.limit-end.ensures at c.loop-test.false) in
    head_leads (items c.args.period (item c.args.k) _) (held c.args.r) c.args.at _ (λ init edges count.
    let g = rw c.in-Err-named_item.is at c.named_item.ensures init edges count in
    rw (← c.loop.invariant.reads init edges count, none) g.reads)

pub returns-in-Err-named_item-clause-beside : goal.returns-in-Err-named_item-clause-beside
unfolding items_so_far_from
returns-in-Err-named_item-clause-beside c = λ init edges count.
    let none : limit (item c.args.k) - c.loop.counter ≡ 0 = omega (arith, rw c.limit-end.ensures at c.loop-test.false) in
    let g = c.named_item.ensures init edges count in
    rw (← c.loop.invariant.stops init edges count, none) g.stops
