-- is_row gathers what differs: 0 if the bytes so far are the same.
use Rattle.std.specs.Prelude.{◌+◌, ◌-◌, ◌*◌, take, drop}
use Rattle.std.proofs.Common.{arith}
use borrow.Author.Tests.{eqb-true}
use Rattle.tables_rows.specs.RasterLaws.{part_between}
use Rattle.tables_check.proofs.Rows.{same_more}
use Rattle.tables_cut.specs.RuleLaws.{loaded}
use Rattle.tables_check.proofs.is_row.Goals as goal

pub loop-i-preserved : goal.loop-i-preserved
loop-i-preserved c =
    let b = c.bytes_for-b.result in
    let a = c.args.s * b in
    same_more c.args.row.now (take (a + b - a) (drop a c.args.raster.now)) c.loop-i.changed c.loop-i.i c.loop-i.invariant

pub returns : goal.returns
returns c =
    let bytes = c.bytes_for-b in
    λ e. loaded c.args.w c.args.raster.now c.args.s c.args.row.now _
    (part_between c.args.w c.args.s bytes.result c.args.raster.now bytes.ensures)
    (λ j h. c.loop-i.invariant (eqb-true c.loop-i.changed 0 e) j (omega (arith, c.loop-i-test.false, bytes.ensures)))
