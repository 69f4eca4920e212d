-- settle ends: each round but the last is later than the one before.
use mathlib.Core.Path.{sym}
use mathlib.Core.Logic.{◌≢◌}
use Prim.Native.Nat.{◌<◌}
use native.Mathlib.Omega.{arith}
use lib.Arith.{lt_of_le-ne}
use Rattle.tables_settle.proofs.DoneLaws.{settled_done}
use Rattle.tables_settle.proofs.TurnLaws.{lengths_none, lengths_more, rooms_kept, moved_none, moved_both}
use Rattle.tables_settle.proofs.settle.Goals as goal

pub loop-late-init : goal.loop-late-init
loop-late-init c = let pre = c.requires in
    (lengths_none, moved_none pre.0.state)

pub hurry-early-requires : goal.hurry-early-requires
hurry-early-requires c = let pre = c.requires in
    let loop = c.loop-late in (
      record {
        tables = pre.0.tables;
        rooms = rooms_kept pre.0.rooms loop.invariant.0;
        state = loop.invariant.1.state;
      },
      pre.1,
    )

pub sweep-late-requires : goal.sweep-late-requires
sweep-late-requires c = let pre = c.requires in
    let loop = c.loop-late in
    let hurry = c.hurry-early
    in
    let kept = hurry.auto in
    let sizes = lengths_more loop.invariant.0
    (record { raster = kept.raster; looked = kept.seen; changed = kept.stamps; row_same = kept.row }) in
    record { tables = pre.0.tables; rooms = rooms_kept pre.0.rooms sizes; state = hurry.ensures.state }

pub loop-late-smaller : goal.loop-late-smaller
loop-late-smaller c = let hurry = c.hurry-early in
    let sweep = c.sweep-late in
    let swept = sweep.ensures.moved in
    let changed : sweep.result.time ≢ hurry.result.time = c.if-late-early.false in
    let later : hurry.result.time < sweep.result.time = lt_of_le-ne swept.rises (λ e. changed (sym e)) in
    omega (arith, hurry.ensures.rises, swept.state.falls)

pub loop-late-preserved : goal.loop-late-preserved
loop-late-preserved c = let loop = c.loop-late in
    let hurry = c.hurry-early in
    let sweep = c.sweep-late in
    let same = loop.invariant.0 in
    let early = hurry.auto in
    let late = sweep.auto in (
      record {
        raster = omega (arith, same.raster, early.raster, late.raster);
        looked = omega (arith, same.looked, early.seen, late.seen);
        changed = omega (arith, same.changed, early.stamps, late.stamps);
        row_same = omega (arith, same.row_same, early.row, late.row);
      },
      moved_both (moved_both loop.invariant.1 hurry.ensures) sweep.ensures.moved,
    )

pub returns : goal.returns
returns c = let pre = c.requires in
    let loop = c.loop-late in
    let hurry = c.hurry-early in
    let sweep = c.sweep-late in
    let moved = moved_both (moved_both loop.invariant.1 hurry.ensures) sweep.ensures.moved in
    settled_done pre.0.tables.left pre.0.tables.right pre.0.rooms.wide pre.0.rooms.raster
    (λ i. omega (arith, c.type_inv.raster i)) moved.shrunk moved.state (sweep.ensures.still c.if-late-early.true)
