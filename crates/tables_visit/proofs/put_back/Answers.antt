-- put_back counts what the row has lost, and copies it to its place if that is anything.
use Rattle.std.specs.Prelude.{List, ℕ, length}
use Rattle.std.proofs.Common.{arith, ap, sym, ◌∙◌, subst}
use Rattle.bitmaps.specs.Bits.{bit_at}
use Rattle.bitmaps.specs.Packed.{bytes_for}
use Rattle.tables_rows.specs.RasterLaws.{part_length, part_between}
use Rattle.tables_count.specs.Pairs.{passing, Fewer}
use Rattle.tables_visit.proofs.Laws.{back_still, back_stored}
use Rattle.tables_visit.proofs.put_back.Goals as goal

pub row_lost-lost-requires : goal.row_lost-lost-requires
row_lost-lost-requires c =
    let args = c.args in
    let pre = c.requires in
    let bytes = c.bytes_for-b in
    let same = part_between args.w args.s bytes.result args.raster.now bytes.ensures in
    let long = part_length args.n (bytes_for args.w) args.raster.now args.s pre.1.1.1.0 pre.1.1.0 in (
      pre.1.0,
      (
        omega (arith, ap length same, long),
        (pre.1.1.1.1.0, subst (λ (x : List ℕ). Fewer args.w x args.row.now) (sym same) pre.1.1.1.1.1),
      ),
    )

pub returns-then-lost-eq0 : goal.returns-then-lost-eq0
returns-then-lost-eq0 c =
    let args = c.args in
    let if1 = c.if-lost-eq0 in
    let same = part_between args.w args.s c.bytes_for-b.result args.raster.now c.bytes_for-b.ensures in
    back_still args.w args.s args.row.now args.raster.now c.requires.1.1.1.1.1
    (omega (arith, if1.true, c.row_lost-lost.ensures, ap (λ (x : List ℕ). passing (bit_at x) args.w) same))

pub returns : goal.returns
returns c =
    let args = c.args in
    let pre = c.requires in
    let bytes = c.bytes_for-b in
    let lost = c.row_lost-lost in
    let some = c.if-lost-eq0 in
    let same = part_between args.w args.s bytes.result args.raster.now bytes.ensures in
    back_stored args.w args.s args.row.now args.raster.now pre.1.1.1.1.1 args.n bytes.result c.copy.new.s lost.result
    bytes.ensures c.copy.ensures pre.1.1.1.0 pre.1.1.0 some.false
    (lost.ensures ∙ ap (λ (x : List ℕ). passing (bit_at x) args.w) same)
