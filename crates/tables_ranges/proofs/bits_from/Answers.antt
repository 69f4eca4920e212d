use native.Mathlib.Omega.{arith}
use lib.Pow.{shr_le}
use Rattle.tables_ranges.proofs.Laws.{full_from}
use Rattle.tables_ranges.proofs.bits_from.Goals as goal

pub overflow_cast-result-3 : goal.overflow_cast-result-3
overflow_cast-result-3 c = record { fits = omega (arith, shr_le 255 c.args.n) }

pub returns : goal.returns
returns c = full_from c.args.n c.requires
