-- The word, LF.
use borrow.Author.Rules.{rules}
use native.Mathlib.Omega.{arith}
use Rattle.printed_lines.specs.Lines.{passed_line, line, spaced}
use Rattle.byte_slices.specs.Put.{puts_none, puts_then}
use Rattle.printed_lines.proofs.put_passed.Goals as goal

pub returns : goal.returns
unfolding passed_line line spaced
returns c = record {
  puts = puts_then (puts_then c.put_bytes-end.ensures puts_none) c.put_byte.ensures;
  short = omega arith;
}
