-- The space, then the number.
use borrow.Author.Rules.{rules}
use native.Mathlib.Omega.{arith}
use Rattle.printed_lines.proofs.Laws.{spaced_short}
use Rattle.byte_slices.specs.Put.{puts_then}
use Rattle.printed_lines.proofs.put_spaced.Goals as goal

pub returns : goal.returns
returns c =
    let n = c.args.n in record {
      puts = puts_then c.put_byte-place.ensures c.put_number.ensures;
      short = spaced_short n (omega arith);
    }
