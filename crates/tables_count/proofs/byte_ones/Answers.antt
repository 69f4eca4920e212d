-- byte_ones shifts the other bits off and counts the ones left.
use Rattle.std.proofs.Common.{arith}
use Rattle.tables_count.proofs.Laws.{high_ones_is}
use Rattle.tables_count.proofs.byte_ones.Goals as goal

pub returns : goal.returns
returns c = high_ones_is c.args.b c.args.m (omega arith) c.requires
