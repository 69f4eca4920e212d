-- cut_by_mask leaves the row where the left has no move, and cuts it by the mask where it has one.
use Rattle.std.specs.Prelude.{List, ℕ}
use Rattle.std.proofs.Common.{subst}
use Rattle.tables_rows.specs.RasterLaws.{part_between}
use Rattle.tables_ranges.specs.Cut.{Cut, from_bit}
use Rattle.tables_first.proofs.Laws.{mask_none, mask_cuts}
use Rattle.tables_first.proofs.cut_by_mask.Goals as goal

pub returns-then-u : goal.returns-then-u
returns-then-u c =
    let args = c.args in
    mask_none args.lm.now args.masks.now args.sides.right_states args.sides.steps args.s args.c c.if-u.true

pub returns : goal.returns
returns c =
    let args = c.args in
    let w = args.sides.right_states in
    mask_cuts args.lm.now args.masks.now w args.sides.steps args.s args.c c.if-u.false
    (subst (λ (x : List ℕ). Cut 0 w (from_bit x 0 0) args.row.now c.and_range.new.row)
    (part_between w args.c c.bytes_for-b.result args.masks.now c.bytes_for-b.ensures) c.and_range.ensures)
