-- whole_ones counts the ones of the byte.
use Rattle.std.proofs.Common.{arith, sym}
use Rattle.tables_count.proofs.Laws.{byte_ones_are}
use Rattle.tables_count.proofs.whole_ones.Goals as goal

pub returns : goal.returns
returns c = sym (byte_ones_are c.args.b (omega arith))
