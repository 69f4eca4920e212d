-- A row in which nothing is set passes, and one that loses nothing.
use Rattle.std.proofs.Common.{sym, ◌∙◌}
use Rattle.tables_check.proofs.Rows.{passes_empty, passes_whole}
use Rattle.tables_check.proofs.row_passes.Goals as goal

pub returns-then-span : goal.returns-then-span
returns-then-span c =
    let a = c.args in
    record {
      fine_at = λ e. passes_empty a.lm.now a.rm.now a.sides.right_states a.sides.steps a.raster.now
          a.s a.keep.now a.holds.now c.load.ensures c.span_of-span.ensures c.if-span.true;
    }

pub returns : goal.returns
returns c =
    let a = c.args in
    record {
      fine_at = λ e. passes_whole a.lm.now a.rm.now a.sides.right_states a.sides.steps a.raster.now
          a.s a.keep.now a.holds.now (sym c.get.ensures ∙ c.if-not-get.false)
          c.and_range.ensures
          c.cut_by_steps.ensures (c.is_row.ensures e);
    }
