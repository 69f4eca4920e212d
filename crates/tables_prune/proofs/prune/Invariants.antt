-- The first i entries are pruned, the others are as they were.
use Rattle.std.specs.Prelude.{◌≡◌, ℕ, get_or}
use Rattle.bitmaps.specs.Bits.{bit_at, written}
use Rattle.tables_prune.specs.Prune.{kept_of}
use Rattle.tables_prune.proofs.prune.Given as goal

abbrev pub invariant-loop-i : goal.invariant-loop-i
invariant-loop-i l = l.moves ≡ written (λ (j : ℕ). kept_of (bit_at l.keep) (get_or l.initial.moves j 0)) l.i l.initial.moves
