-- join_class: the mask of a class, cut by a range of the source, joined to the row.
use Rattle.std.proofs.Common.{◌∙◌}
use Rattle.tables_shifts.proofs.Joining.{join_bit}
use Rattle.tables_shifts.proofs.join_class.Goals as goal

pub returns : goal.returns
returns c =
    let pre = c.requires in (
      c.or_bytes.ensures.only.sized,
      (
        c.and_range.ensures.sized ∙ c.copy_mask.ensures.only.sized,
        join_bit c.args.source.now pre.1.1.1.1.1.0 pre.0 c.class_number-first.ensures.0 c.class_number-end.ensures.0
            c.class_number-target.ensures.0 (rw (c.mask_at.ensures, c.bytes_for-to.ensures) at c.copy_mask.ensures)
            c.and_range.ensures (rw c.bytes_for-to.ensures at c.or_bytes.ensures),
      ),
    )
