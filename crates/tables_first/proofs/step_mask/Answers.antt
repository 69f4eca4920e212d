-- step_mask copies `holds` and cuts it by the step.
use Rattle.std.proofs.Common.{arith}
use Rattle.tables_first.proofs.Laws.{within_all, mask_is}
use Rattle.tables_first.proofs.step_mask.Goals as goal

pub row_step-requires : goal.row_step-requires
row_step-requires c =
    let pre = c.requires in
    (pre.0, (pre.1.1.0, (pre.1.0, (omega arith, (omega arith, within_all c.args.w _)))))

pub returns : goal.returns
returns c =
    mask_is c.args.holds.now c.args.rm.now c.args.row.now c.args.w c.args.steps c.args.c
    (rw (c.copy.ensures, c.bytes_for-b.ensures) at c.row_step.ensures)
