-- row_ones goes byte by byte: r is the ones of the first i bytes.
use Rattle.std.specs.Prelude.{◌≡◌, ◌*◌}
use Rattle.bitmaps.specs.Bits.{bit_at}
use Rattle.tables_count.specs.Pairs.{passing}
use Rattle.tables_count.proofs.row_ones.Given as goal

abbrev pub invariant-loop-i : goal.invariant-loop-i
invariant-loop-i l = l.r ≡ passing (bit_at l.row) (8 * l.i)
