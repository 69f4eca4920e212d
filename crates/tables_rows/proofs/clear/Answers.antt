-- clear takes away the bit at the pair's place.
use borrow.Author.Rules.{rules}
use native.Mathlib.Omega.{arith}
use mathlib.Core.Path.{◌∙◌}
use Rattle.bitmaps.specs.Packed.{bytes_for}
use Rattle.tables_rows.specs.RasterLaws.{row_end}
use Rattle.tables_rows.proofs.Laws.{place_bit, place_without}
use Rattle.tables_rows.proofs.clear.Goals as goal

pub clear-requires : goal.clear-requires
clear-requires c =
    let args = c.args in
    let pre = c.requires in
    let place = c.place-i in (
      omega (arith, place.ensures, row_end args.n (bytes_for args.w) args.s pre.1.1.0),
      place_bit args.w args.raster.now args.s args.t place.result place.ensures pre.1.1.1.0
          ∙ pre.1.1.1.1.1,
    )

pub returns : goal.returns
returns c =
    let args = c.args in
    let place = c.place-i in
    c.clear.ensures
    ∙ place_without args.w args.raster.now args.s args.t place.result place.ensures
