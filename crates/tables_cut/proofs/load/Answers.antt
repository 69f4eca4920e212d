-- load copies the part of the raster that is the row.
use Rattle.std.specs.Prelude.{List, ℕ, get_or}
use Rattle.std.proofs.Common.{arith, ap, ◌∙◌}
use Rattle.bitmaps.specs.BitLaws.{written_at}
use Rattle.tables_rows.specs.RasterLaws.{part_between}
use Rattle.tables_cut.specs.RuleLaws.{loaded}
use Rattle.tables_cut.proofs.load.Goals as goal

pub returns : goal.returns
returns c =
    let args = c.args in
    let bytes = c.bytes_for-b in
    loaded args.w args.raster.now args.s c.copy.new.s _
    (part_between args.w args.s bytes.result args.raster.now bytes.ensures)
    (λ i h. ap (λ (x : List ℕ). get_or x i 0) c.copy.ensures
    ∙ written_at _ bytes.result args.row.now i (omega (arith, bytes.ensures)))
