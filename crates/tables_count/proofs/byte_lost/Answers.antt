-- byte_lost counts the ones that the byte has more.
use Rattle.std.specs.Prelude.{◌<◌, get_or}
use Rattle.std.proofs.Common.{arith}
use Rattle.tables_count.proofs.Laws.{byte_falls, byte_loses, loses_few}
use Rattle.tables_count.proofs.byte_lost.Goals as goal

pub overflow_sub-x : goal.overflow_sub-x
overflow_sub-x c =
    byte_falls c.args.old.now c.args.row.now c.args.i c.requires.1.1 (omega arith) (omega arith)

pub returns : goal.returns
returns c =
    let old : get_or c.args.old.now c.args.i 0 < 256 = omega arith in
    let row : get_or c.args.row.now c.args.i 0 < 256 = omega arith in (
      loses_few c.args.old.now c.args.row.now c.args.i c.requires.1.1 old row,
      byte_loses c.args.old.now c.args.row.now c.args.i c.requires.1.1 old row,
    )
