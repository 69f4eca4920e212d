-- cut_by_step has nothing to cut where s has no move, and else cuts by the row that it leads to.
use Rattle.std.specs.Prelude.{List, ℕ}
use Rattle.std.proofs.Common.{subst}
use Rattle.tables_rows.specs.RasterLaws.{part_between}
use Rattle.tables_ranges.specs.Cut.{Cut}
use Rattle.tables_runs.specs.Runs.{goes, landing}
use Rattle.tables_cut.proofs.Laws.{step_nowhere, step_lands}
use Rattle.tables_cut.proofs.cut_by_step.Goals as goal

pub returns-then-u-eq-NO_TARGET : goal.returns-then-u-eq-NO_TARGET
returns-then-u-eq-NO_TARGET c =
    let a = c.args in
    step_nowhere a.lm.now a.rm.now a.sides.right_states a.sides.steps a.raster.now a.s a.c c.if-u-eq-NO_TARGET.true

pub returns : goal.returns
returns c =
    let a = c.args in
    let w = a.sides.right_states in
    let steps = a.sides.steps in
    step_lands a.lm.now a.rm.now w steps a.raster.now a.s a.c c.if-u-eq-NO_TARGET.false
    (subst (λ (l : List ℕ). Cut 0 w (landing l a.rm.now steps a.c) a.row.now c.cut_by_row.new.row)
    (part_between w (goes a.lm.now steps a.c a.s) c.bytes_for-b.result a.raster.now c.bytes_for-b.ensures)
    c.cut_by_row.ensures)
