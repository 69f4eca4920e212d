-- sweep goes from the last row to the first: if nothing changed, the rows from s on are quiet.
use Rattle.std.specs.Prelude.{◌≡◌, ◌<◌}
use Rattle.std.proofs.Common.{arith}
use Rattle.tables_settle.proofs.TurnLaws.{lengths_none, lengths_more, rooms_kept, sweep_start, sweep_more}
use Rattle.tables_settle.proofs.sweep.Goals as goal

pub loop-s-init : goal.loop-s-init
loop-s-init c = (lengths_none, sweep_start c.requires.state)

pub turn-late-requires : goal.turn-late-requires
turn-late-requires c =
    let pre = c.requires in (
      record {
        tables = pre.tables;
        rooms = rooms_kept pre.rooms c.loop-s.invariant.0;
        state = c.loop-s.invariant.1.moved.state;
      },
      omega arith,
    )

pub loop-s-preserved : goal.loop-s-preserved
loop-s-preserved c =
    let kept = c.turn-late.auto in
    let some : 0 < c.loop-s.s = omega (arith, c.loop-s-test.true) in (
      lengths_more c.loop-s.invariant.0
          (record { raster = kept.raster; looked = kept.seen; changed = kept.stamps; row_same = kept.row }),
      sweep_more c.loop-s.s some c.loop-s.invariant.1 c.turn-late.ensures,
    )

pub returns : goal.returns
returns c =
    let e : c.loop-s.s ≡ 0 = omega arith in
    rw e at c.loop-s.invariant.1
