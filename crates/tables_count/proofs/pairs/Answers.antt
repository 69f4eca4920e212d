-- pairs goes row by row: r is the pairs set in the first s rows.
use Rattle.std.specs.Prelude.{◌≡◌, List, ℕ}
use Rattle.std.proofs.Common.{arith, ap, ◌∙◌, refl}
use Rattle.bitmaps.specs.Bits.{bit_at}
use Rattle.tables_rows.specs.Raster.{set_at}
use Rattle.tables_rows.specs.RasterLaws.{pairs_few, part_between}
use Rattle.tables_count.specs.Pairs.{passing, pairs_set}
use Rattle.tables_count.proofs.PassingLaws.{pairs_le, passing_le, pairs_more}
use Rattle.tables_count.proofs.pairs.Goals as goal

pub loop-s-init : goal.loop-s-init
unfolding pairs_set
loop-s-init c = refl

-- the ones of the row that is lent are the pairs of row s
row_counted : (c : goal.After-row_ones-r)
    → c.row_ones-r.result ≡ passing (set_at c.args.w c.args.raster.now c.loop-s.s) c.args.w
row_counted c =
    let same = part_between c.args.w c.loop-s.s c.bytes_for-b.result c.args.raster.now c.bytes_for-b.ensures in
    c.row_ones-r.ensures ∙ ap (λ (x : List ℕ). passing (bit_at x) c.args.w) same

pub overflow_add-r : goal.overflow_add-r
overflow_add-r c =
    let row = set_at c.args.w c.args.raster.now in
    omega (
      arith,
      row_counted c,
      c.loop-s.invariant,
      pairs_le row c.args.w c.loop-s.s,
      passing_le (row c.loop-s.s) c.args.w,
      pairs_few c.loop-s.s c.args.w (omega arith) c.requires.1.0,
    )

pub loop-s-preserved : goal.loop-s-preserved
loop-s-preserved c =
    omega (arith, row_counted c, c.loop-s.invariant, pairs_more (set_at c.args.w c.args.raster.now) c.args.w c.loop-s.s)
