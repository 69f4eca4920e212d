-- is_set reads the bit at the pair's place.
use borrow.Author.Rules.{rules}
use native.Mathlib.Omega.{arith}
use mathlib.Core.Path.{◌∙◌}
use Rattle.bitmaps.specs.Packed.{bytes_for}
use Rattle.tables_rows.specs.RasterLaws.{row_end}
use Rattle.tables_rows.proofs.Laws.{place_bit}
use Rattle.tables_rows.proofs.is_set.Goals as goal

pub get-requires : goal.get-requires
get-requires c =
    let args = c.args in
    let pre = c.requires in
    omega (arith, c.place.ensures, row_end args.n (bytes_for args.w) args.s pre.1.1.0)

pub returns : goal.returns
returns c =
    let args = c.args in
    let pre = c.requires in
    c.get.ensures ∙ place_bit args.w args.raster.now args.s args.t c.place.result
    c.place.ensures pre.1.1.1.0
