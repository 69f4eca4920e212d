-- add_state writes the end of the class and one bit of its mask.
use Rattle.std.specs.Prelude.{◌-◌, ◌%◌}
use Rattle.std.proofs.Common.{arith}
use Rattle.bitmaps.specs.BitLaws.{clear_one}
use Rattle.tables_shifts.proofs.Classes.{added}
use Rattle.tables_shifts.proofs.add_state.Goals as goal

pub returns : goal.returns
returns c =
    let pre = c.requires in
    rw (c.class_at.ensures, c.mask_at.ensures, clear_one (7 - c.args.t % 8) (omega arith))
    (added pre.1.1.1.0 pre.1.1.0 pre.1.1.1.1.0 pre.1.1.1.1.1)
