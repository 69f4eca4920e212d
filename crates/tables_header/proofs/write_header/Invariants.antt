-- write_header writes the header byte by byte: the first i bytes are the header's.
use Rattle.std.specs.Prelude.{◌≡◌, ℕ, get_or}
use Rattle.bitmaps.specs.Bits.{written}
use Rattle.tables_header.specs.Header.{header}
use Rattle.tables_header.proofs.write_header.Given as goal

abbrev pub invariant-loop-i : goal.invariant-loop-i
invariant-loop-i l = l.table ≡ written (λ (j : ℕ). get_or (header l.w l.h) j 0) l.i l.initial.table
