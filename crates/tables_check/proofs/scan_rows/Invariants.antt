-- scan_rows goes by row, then column: from the present pair on the answer is still open.
use mathlib.Core.Path.{◌≡◌}
use Prim.Native.Nat.{◌+◌, ◌-◌}
use lib.ListN.{length}
use Rattle.limits.specs.Limits.{keep_limit}
use Rattle.tables_check.specs.Fault.{row_from, table_from}
use Rattle.tables_check.specs.Scan.{fault_at}
use Rattle.tables_check.proofs.scan_rows.Given as goal

abbrev pub invariant-columns : goal.invariant-columns
invariant-columns l =
    (length l.copy ≡ keep_limit) × (row_from (fault_at l.lm l.rm l.keep l.holds l.w l.sides.steps l.raster) l.s (l.w - l.t) l.t
    (table_from (fault_at l.lm l.rm l.keep l.holds l.w l.sides.steps l.raster) l.w (l.n - (l.s + 1)) (l.s + 1)) ≡ table_from
    (fault_at l.lm l.rm l.keep l.holds l.w l.sides.steps l.raster) l.w l.n 0)

abbrev pub decreases-columns : goal.decreases-columns
decreases-columns l = l.w - l.t

abbrev pub invariant-rows : goal.invariant-rows
invariant-rows l = (length l.copy ≡ keep_limit)
    × (table_from (fault_at l.lm l.rm l.keep l.holds l.w l.sides.steps l.raster) l.w (l.n - l.s) l.s ≡ table_from
    (fault_at l.lm l.rm l.keep l.holds l.w l.sides.steps l.raster) l.w l.n 0)

abbrev pub decreases-rows : goal.decreases-rows
decreases-rows l = l.n - l.s
