-- The first i bytes are written.
use Rattle.std.proofs.Common.{◌≡◌, ℕ, length, get_or}
use Rattle.bitmaps.specs.Bits.{written}
use Rattle.bitmaps.proofs.copy.Given as goal

abbrev pub invariant-loop-i : goal.invariant-loop-i
invariant-loop-i l = (length l.s ≡ length l.initial.s) × (l.s ≡ written (λ (j : ℕ). get_or l.k j 0) l.i l.initial.s)
