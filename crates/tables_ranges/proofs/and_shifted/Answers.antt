-- The first i bytes are cut, each by two neighbouring bytes of the source.
use Rattle.std.specs.Prelude.{◌≡◌, ◌+◌, ◌*◌, ◌/◌, ◌%◌}
use Rattle.std.proofs.Common.{arith}
use Rattle.tables_ranges.proofs.Laws.{neighbours, cut_eight, bytes_none, bytes_more}
use Rattle.tables_ranges.proofs.and_shifted.Goals as goal

pub loop-i-init : goal.loop-i-init
loop-i-init c = bytes_none c.args.j _ c.args.row.now

pub loop-i-preserved : goal.loop-i-preserved
loop-i-preserved c =
    let args = c.args in
    let loop = c.loop-i in
    bytes_more args.j loop.i loop.invariant
    (cut_eight loop.row args.source.now args.j loop.i args.v c.shifted-y.result (omega arith)
    (neighbours args.source.now (args.v + 8 * loop.i) (args.v / 8 + loop.i) (args.v % 8) c.shifted-y.result
    (omega arith) (omega arith) c.shifted-y.ensures))

pub returns : goal.returns
returns c = let e : c.loop-i.i ≡ c.args.m = omega arith in rw e at c.loop-i.invariant
