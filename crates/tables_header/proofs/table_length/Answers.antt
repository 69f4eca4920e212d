-- table_length adds the raster to the header.
use native.Mathlib.Omega.{arith}
use mathlib.Core.Path.{ap}
use Prim.Native.Nat.{ℕ, ◌*◌}
use Rattle.tables_rows.specs.RasterLaws.{raster_few}
use Rattle.tables_header.specs.Header.{table_bytes}
use Rattle.tables_header.proofs.Laws.{header_few}
use Rattle.tables_header.proofs.table_length.Goals as goal

pub overflow_mul-result : goal.overflow_mul-result
overflow_mul-result c =
    let args = c.args in
    let pre = c.requires in
    let size = ap (λ (b : ℕ). args.h * b) c.bytes_for.ensures in
    omega (arith, size, raster_few args.h args.w pre.1 pre.0)

pub overflow_add-result : goal.overflow_add-result
overflow_add-result c =
    let args = c.args in
    let pre = c.requires in
    let size = ap (λ (b : ℕ). args.h * b) c.bytes_for.ensures in
    omega (
      arith,
      size,
      raster_few args.h args.w pre.1 pre.0,
      header_few args.w args.h pre.0 pre.1,
    )

pub returns : goal.returns
unfolding table_bytes
returns c =
    let args = c.args in
    let size = ap (λ (b : ℕ). args.h * b) c.bytes_for.ensures in
    omega (arith, size, c.header_length.ensures)
