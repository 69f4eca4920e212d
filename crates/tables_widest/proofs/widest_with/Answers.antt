-- widest_with goes from the first cut to the widest table; the start pair is read from the raster that is left.
use Rattle.std.proofs.Common.{arith, refl}
use Rattle.tables_widest.proofs.StartLaws.{state_start}
use Rattle.tables_widest.proofs.WholeLaws.{widest_answered}
use Rattle.tables_widest.proofs.widest_with.Goals as goal

pub find_shape-requires : goal.find_shape-requires
find_shape-requires c =
    (c.requires.0.right, (omega (arith, c.requires.1.run_each, c.targets_first.auto.stack), c.requires.1.shift_each))

pub settle-count-requires : goal.settle-count-requires
settle-count-requires c =
    let slices = c.requires.0 in
    let room = c.requires.1 in
    let cut = c.first_cut-all in (
      record {
        tables = record { left = slices.left; right = slices.right; shape = c.find_shape.ensures };
        rooms =
            record {
              wide = omega (arith, slices.right_start);
              raster = omega (arith, room.table, cut.auto.raster);
              looked = room.looked;
              changed = omega (arith, room.changed, cut.auto.stamps);
              row_room = omega (arith, room.row, cut.auto.masks);
            };
        state = state_start slices.left slices.right cut.ensures c.args.seen.now room.unseen (omega arith) refl;
      },
      (omega (arith, room.ordered, c.targets_first.auto.order), omega (arith, room.placed, c.targets_first.auto.first)),
    )

pub returns : goal.returns
returns c =
    widest_answered c.requires.0 c.requires.1.table c.first_cut-all.ensures c.settle-count.ensures
    c.is_set-start.ensures
