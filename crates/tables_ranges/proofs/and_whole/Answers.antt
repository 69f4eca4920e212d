-- The first i bytes are cut.
use Rattle.std.specs.Prelude.{◌≡◌, ◌+◌, ◌*◌}
use Rattle.std.proofs.Common.{arith}
use Rattle.tables_ranges.proofs.Laws.{whole, cut_eight, bytes_none, bytes_more}
use Rattle.tables_ranges.proofs.and_whole.Goals as goal

pub loop-i-init : goal.loop-i-init
loop-i-init c = bytes_none c.args.j _ c.args.row.now

pub loop-i-preserved : goal.loop-i-preserved
loop-i-preserved c =
    let args = c.args in
    let loop = c.loop-i in
    bytes_more args.j loop.i loop.invariant
    (cut_eight loop.row args.source.now args.j loop.i (8 * args.q) _ (omega arith)
    (whole args.source.now (8 * args.q + 8 * loop.i) (args.q + loop.i) (omega arith)))

pub returns : goal.returns
returns c = let e : c.loop-i.i ≡ c.args.m = omega arith in rw e at c.loop-i.invariant
