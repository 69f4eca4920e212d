-- What the blocks lose and what the bytes behind them lose come to what the row loses.
use Rattle.std.specs.Prelude.{◌+◌}
use Rattle.std.proofs.Common.{arith}
use Rattle.tables_count.proofs.Laws.{lost_till, lost_more, lost_end}
use Rattle.tables_count.proofs.row_lost.Goals as goal

pub returns : goal.returns
returns c =
    let loop = c.loop-i in
    let whole = c.blocks_lost-whole in
    lost_end c.args.w c.args.old.now c.args.row.now c.requires.1.1.1 (whole.result + loop.r)
    (lost_till (omega arith) (lost_more whole.ensures.1 loop.invariant.1))
