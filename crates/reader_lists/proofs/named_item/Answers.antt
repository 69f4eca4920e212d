-- There is room for the item that is declared, and each return is what its kind adds.
use Rattle.std.proofs.Common.{◌<◌, refl, sym}
use borrow.Author.Tests.{lt-leb, le-leb}
use Rattle.reader_parts.specs.Binds.{of_ok, beside_ok, beside_err}
use Rattle.reader_parts.specs.Facts.{declare_at}
use Rattle.reader_lists.specs.Heads.{rest_so_far}
use Rattle.reader_lists.proofs.Laws.{room_for, added_whole, item_goes, item_stops, none_goes, none_full}
use Rattle.reader_lists.proofs.named_item.Goals as goal

pub add-requires : goal.add-requires
add-requires c =
    let room = of_ok (λ d. c.count-n.result < c.limit.result) (declare_at _ _ _ _ _ c.args.at) (sym (beside_ok _ _ c.in-Ok.ensures)) in
    rw c.count-n.ensures at (room_for room c.limit.ensures refl)

pub add-requires-in-Err-held_next : goal.add-requires-in-Err-held_next
add-requires-in-Err-held_next c =
    let room = of_ok (λ d. c.count-n.result < c.limit.result) (declare_at _ _ _ _ _ c.args.at) (sym (beside_ok _ _ c.in-Ok.ensures)) in
    rw c.count-n.ensures at (room_for room c.limit.ensures refl)

pub returns-in-Ok-held_next : goal.returns-in-Ok-held_next
returns-in-Ok-held_next c = λ init edges count.
    let r = rest_so_far c.args.r.now init edges count in
    let e = rw (c.count-n.ensures, c.first_slot.ensures, c.limit.ensures) at (beside_ok _ _ c.in-Ok.ensures) in
    rw (c.add.ensures, added_whole)
    (item_goes c.args.period _ c.args.k c.args.at r e (beside_ok _ _ c.in-Ok-held_next.ensures))

pub returns-in-Err-held_next : goal.returns-in-Err-held_next
returns-in-Err-held_next c = λ init edges count.
    let r = rest_so_far c.args.r.now init edges count in
    let e = rw (c.count-n.ensures, c.first_slot.ensures, c.limit.ensures) at (beside_ok _ _ c.in-Ok.ensures) in
    let (none, read) = beside_err _ _ c.in-Err-held_next.ensures in
    rw (c.add-in-Err-held_next.ensures, added_whole)
    (item_stops c.args.period _ c.args.k c.args.at r e none read)

pub returns-then-n-limit : goal.returns-then-n-limit
returns-then-n-limit c = λ init edges count.
    let r = rest_so_far c.args.r.now init edges count in
    let (none, read) = beside_err _ _ c.in-Err.ensures in
    let e = rw (c.count-n.ensures, c.first_slot.ensures, c.limit.ensures) at none in
    let room = rw (c.count-n.ensures, c.limit-in-Err.ensures) at (lt-leb c.limit-in-Err.result c.count-n.result c.if-n-limit.true) in
    rw (c.add-then-n-limit.ensures, c.blank_constraint.ensures, added_whole)
    (none_goes c.args.period _ c.args.k c.args.at r e read room)

pub returns-else-n-limit : goal.returns-else-n-limit
returns-else-n-limit c = λ init edges count.
    let r = rest_so_far c.args.r.now init edges count in
    let (none, _) = beside_err _ _ c.in-Err.ensures in
    let e = rw (c.count-n.ensures, c.first_slot.ensures, c.limit.ensures) at none in
    let full = rw (c.count-n.ensures, c.limit-in-Err.ensures) at (le-leb c.limit-in-Err.result c.count-n.result c.if-n-limit.false) in
    none_full c.args.period _ c.args.k c.args.at r e full
