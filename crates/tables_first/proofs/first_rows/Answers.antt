-- first_rows goes row by row: the first s rows are cut and counted.
use Rattle.std.specs.Prelude.{◌≡◌, ℕ, ◌*◌, ◌≤◌, length}
use Rattle.std.proofs.Common.{arith, subst, ◌∙◌}
use Rattle.bitmaps.specs.Bits.{bit_at}
use Rattle.bitmaps.specs.Packed.{bytes_for}
use Rattle.tables_rows.specs.Raster.{set_at}
use Rattle.tables_rows.specs.RasterLaws.{pairs_few, row_back, row_back_length}
use Rattle.tables_count.proofs.PassingLaws.{pairs_le, passing_le}
use Rattle.tables_first.specs.First.{FirstRows}
use Rattle.tables_first.proofs.Laws.{rows_none, rows_more}
use Rattle.tables_first.proofs.first_rows.Goals as goal

pub loop-s-init : goal.loop-s-init
loop-s-init c = rows_none c.args.stamps.now

pub overflow_add-r : goal.overflow_add-r
overflow_add-r c =
    let w = c.args.sides.right_states in
    omega (
      arith,
      c.loop-s.invariant.counted,
      pairs_le (set_at w c.loop-s.raster) w c.loop-s.s,
      c.first_row-m.ensures.1,
      passing_le (bit_at c.first_row-m.new.row) w,
      pairs_few c.loop-s.s w (omega arith) c.requires.1.0,
      c.requires.1.0,
    )

pub loop-s-preserved : goal.loop-s-preserved
loop-s-preserved c =
    let pre = c.requires in
    let loop = c.loop-s in
    let bytes = c.bytes_for-b in
    let call = c.first_row-m in
    let stamp = c.stamp_of in
    let n = c.args.sides.left_states in
    let w = c.args.sides.right_states in
    let room : n * bytes_for w ≤ length loop.raster = omega (arith, pre.1.1.1.1.0, loop.invariant.sized) in
    let long = row_back_length w loop.s bytes.result loop.raster call.new.row bytes.ensures n room c.loop-s-test.true
    call.auto.row in
    rw (row_back w loop.s bytes.result loop.raster call.new.row bytes.ensures)
    (rows_more loop.invariant c.loop-s-test.true pre.1.1.1.1.0 call.new.row long call.ensures.0 call.result stamp.result
    call.ensures.1 (stamp.ensures.0, λ z. stamp.ensures.1 z ∙ c.row_ones-all.ensures) (omega arith))

pub returns : goal.returns
returns c =
    let args = c.args in
    let e : c.loop-s.s ≡ args.sides.left_states = omega arith in
    subst (λ (x : ℕ). FirstRows args.lm.now args.keep.now args.holds.now args.masks.now x args.sides.right_states
    args.sides.steps args.raster.now c.loop-s.raster c.loop-s.stamps c.loop-s.r) e c.loop-s.invariant
