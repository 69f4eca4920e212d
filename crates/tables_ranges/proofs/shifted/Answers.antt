use native.Mathlib.Omega.{arith}
use Rattle.tables_ranges.proofs.Laws.{two_bytes}
use Rattle.tables_ranges.proofs.shifted.Goals as goal

pub returns : goal.returns
returns c = two_bytes c.args.high c.args.low c.args.n (omega arith) (omega arith)
