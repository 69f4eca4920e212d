-- or_bytes goes byte by byte: those before byte i are joined, the others as they were.
use Rattle.std.specs.Prelude.{ℕ, get_or}
use Rattle.std.specs.Int.Bits.{bit_or}
use Rattle.tables_shifts.specs.Placing.{Filled}
use Rattle.tables_shifts.proofs.or_bytes.Given as goal

abbrev pub invariant-loop-i : goal.invariant-loop-i
invariant-loop-i l = Filled (λ (n : ℕ). bit_or (get_or l.initial.row n 0) (get_or l.other n 0)) l.j l.i
    l.initial.row l.row
