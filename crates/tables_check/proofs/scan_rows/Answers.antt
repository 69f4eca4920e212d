-- scan_rows goes by row, then column: from the present pair on the answer is still open.
use Rattle.std.specs.Prelude.{◌≡◌, List, ℕ, ◌+◌, ◌-◌, Result, Err, ⊤}
use Rattle.std.proofs.Common.{sym, ◌∙◌, ap}
use Rattle.bitmaps.specs.Bits.{bit_at}
use Rattle.tables_rows.specs.RasterLaws.{part_between}
use Rattle.tables_check.specs.declared.Fault.{Fault}
use Rattle.tables_check.specs.Fault.{picked, row_from, table_from}
use Rattle.tables_check.specs.Scan.{fault_at}
use Rattle.tables_check.proofs.Laws.{row_judged, row_done, row_skip, row_passed, fault_unset, table_step, table_end, picked_fine, picked_fault}
use Rattle.tables_check.proofs.scan_rows.Goals as goal
use Rattle.tables_check.proofs.scan_rows.Goals.{After-blank_row-copy, After-fault_at}

-- what the pairs fail at
abbrev faults : After-blank_row-copy → ℕ → ℕ → Result ⊤ Fault
faults c =
    let a = c.args in
    fault_at a.lm.now a.rm.now a.keep.now a.holds.now a.sides.right_states a.sides.steps a.raster.now

-- a row that passes is passed over
pub rows-preserved-then-row_passes : goal.rows-preserved-then-row_passes
rows-preserved-then-row_passes c = (
  c.row_passes.auto.row ∙ c.rows.invariant.0,
  sym (row_passed (faults (goal.at.rows-preserved-then-row_passes c).After-blank_row-copy) c.args.sides.right_states
      c.args.sides.left_states c.rows.s c.if-n-s.false (c.row_passes.ensures.fine_at c.if-row_passes.true))
      ∙ c.rows.invariant.1,
)

pub columns-init : goal.columns-init
columns-init c = (
  c.row_passes.auto.row ∙ c.rows.invariant.0,
  sym (table_step (faults (goal.at.columns-init c).After-blank_row-copy) c.args.sides.right_states
      c.args.sides.left_states c.rows.s c.if-n-s.false)
      ∙ c.rows.invariant.1,
)

pub columns-preserved-then-is_blank : goal.columns-preserved-then-is_blank
columns-preserved-then-is_blank c =
    let a = c.args in
    let row_is = part_between a.sides.right_states c.rows.s c.bytes_for-b.result a.raster.now c.bytes_for-b.ensures in (
      c.columns.invariant.0,
      sym (row_skip (faults (goal.at.columns-preserved-then-is_blank c).After-blank_row-copy) a.sides.right_states 8
          c.rows.s c.columns.t _ (λ i l b d.
          fault_unset a.lm.now a.rm.now a.keep.now a.holds.now a.sides.right_states a.sides.steps a.raster.now
          c.rows.s i (sym (ap (λ (l : List ℕ). bit_at l i) row_is) ∙ c.is_blank.ensures.unset c.if-is_blank.true i l b)))
          ∙ c.columns.invariant.1,
    )

-- the answer, where a pair has been judged: its fault, or what the pairs behind it answer
from_here : (c : After-fault_at) → (let a = c.args in
    let F = fault_at a.lm.now a.rm.now a.keep.now a.holds.now a.sides.right_states a.sides.steps a.raster.now in
    let n = c.args.sides.left_states in let w = c.args.sides.right_states in
    table_from F w n 0 ≡ picked c.fault_at.result c.rows.s c.columns.t (row_from F c.rows.s (w - (c.columns.t + 1))
    (c.columns.t + 1) (table_from F w (n - (c.rows.s + 1)) (c.rows.s + 1))))
from_here c =
    let a = c.args in
    let F = fault_at a.lm.now a.rm.now a.keep.now a.holds.now a.sides.right_states a.sides.steps a.raster.now in
    sym c.columns.invariant.1
    ∙ row_judged F a.sides.right_states c.rows.s c.columns.t _ _ c.columns-test.true c.fault_at.ensures

pub columns-preserved : goal.columns-preserved
columns-preserved c = (
  c.columns.invariant.0,
  sym (from_here (goal.at.columns-preserved c).After-fault_at ∙ picked_fine _ _ _ _ c.in_default.is),
)

pub rows-preserved : goal.rows-preserved
rows-preserved c =
    let a = c.args in (
      c.columns.invariant.0,
      sym (row_done (faults (goal.at.rows-preserved c).After-blank_row-copy) a.sides.right_states c.rows.s c.columns.t _
          c.columns-test.false)
          ∙ c.columns.invariant.1,
    )

pub returns-then-n-s : goal.returns-then-n-s
returns-then-n-s c =
    sym (sym c.rows.invariant.1 ∙ table_end (faults (goal.at.returns-then-n-s c).After-blank_row-copy)
    c.args.sides.right_states c.args.sides.left_states c.rows.s c.if-n-s.true)

pub returns-in-Err : goal.returns-in-Err
returns-in-Err c =
    sym (from_here (goal.at.returns-in-Err c).After-fault_at ∙ picked_fault _ _ _ c.in-Err.fault _ c.in-Err.is
    ∙ ap Err (sym c.of_pair.ensures))
