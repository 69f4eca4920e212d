-- row_step joins class by class what lands in the source; then the row is cut by it.
use Rattle.std.specs.Prelude.{◌≡◌}
use Rattle.std.proofs.Common.{arith}
use Rattle.tables_shifts.specs.Shifts.{count_of}
use Rattle.tables_shifts.proofs.Joining.{landed_none, landed_cut}
use Rattle.tables_shifts.proofs.row_step.Goals as goal

pub loop-i-init : goal.loop-i-init
loop-i-init c = (c.no_row-landed.ensures.0, (c.no_row-part.ensures.0, landed_none c.no_row-landed.ensures.1))

pub returns : goal.returns
returns c =
    let n = c.number-count.ensures.0 in
    let e : c.loop-i.i ≡ count_of c.args.classes.now c.args.c = omega arith in
    landed_cut (c.requires.1.1.0.step c.args.c c.requires.1.0 c.requires.1.1.1.0) (rw e at c.loop-i.invariant.1.1)
    c.and_range.ensures
