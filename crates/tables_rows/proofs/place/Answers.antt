-- place stays far below the largest number.
use borrow.Author.Rules.{rules}
use native.Mathlib.Omega.{arith}
use mathlib.Core.Path.{ap}
use Prim.Native.Nat.{ℕ, ◌+◌, ◌*◌, ◌≤◌}
use Rattle.tables_rows.specs.Raster.{raster_limit}
use Rattle.tables_rows.specs.RasterLaws.{row_few}
use Rattle.tables_rows.proofs.place.Goals as goal

few : (c : goal.After-bytes_for) → c.args.s * c.bytes_for.result + c.bytes_for.result ≤ raster_limit
few c =
    let args = c.args in
    let pre = c.requires in
    row_few args.n args.w args.s c.bytes_for.result c.bytes_for.ensures pre.0 pre.1.0
    pre.1.1.0

pub overflow_mul-result : goal.overflow_mul-result
overflow_mul-result c = omega (arith, few c)

pub overflow_mul-result-2 : goal.overflow_mul-result-2
overflow_mul-result-2 c = omega (arith, few c)

pub overflow_add-result : goal.overflow_add-result
overflow_add-result c = omega (arith, few c)

pub returns : goal.returns
returns c =
    let args = c.args in
    ap (λ (b : ℕ). 8 * (args.s * b) + args.t) c.bytes_for.ensures
