-- hurry keeps the state of the removal, whatever the order.
use Rattle.tables_settle.proofs.TurnLaws.{lengths_none, lengths_more, rooms_kept, moved_none, moved_both}
use Rattle.tables_settle.proofs.hurry.Goals as goal

pub loop-init : goal.loop-init
loop-init c = (lengths_none, moved_none c.requires.0.state)

pub turn-next-requires : goal.turn-next-requires
turn-next-requires c =
    let pre = c.requires in (
      record {
        tables = pre.0.tables;
        rooms = rooms_kept pre.0.rooms c.loop.invariant.0;
        state = c.loop.invariant.1.state;
      },
      c.if-n-s.false,
    )

pub loop-preserved : goal.loop-preserved
loop-preserved c =
    let kept = c.turn-next.auto in (
      lengths_more c.loop.invariant.0
          (record { raster = kept.raster; looked = kept.seen; changed = kept.stamps; row_same = kept.row }),
      moved_both c.loop.invariant.1 c.turn-next.ensures.moved,
    )
