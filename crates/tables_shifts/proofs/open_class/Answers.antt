-- open_class clears the mask of the class and writes its first state and target.
use Rattle.tables_shifts.proofs.Classes.{opened}
use Rattle.tables_shifts.proofs.open_class.Goals as goal

pub returns : goal.returns
returns c =
    let pre = c.requires in
    rw (c.class_at.ensures, c.class_at-2.ensures) (opened c.args.t c.args.v pre.1.1.1.0 pre.1.1.0 pre.1.1.1.1.1.1
    (rw (c.mask_at-at.ensures, c.bytes_for.ensures) at c.clear_mask.ensures))
