-- `renumber` writes the table row by row: the first rows are those of `renumbered`, the others still as they were.
use Prim.Native.Nat.{◌*◌}
use mathlib.Core.Path.{◌≡◌}
use Rattle.bitmaps.specs.Bits.{written}
use Rattle.pairing.specs.Table.{renumbered}
use Rattle.pairing.proofs.renumber.Given as goal

abbrev pub invariant-loop-row : goal.invariant-loop-row
invariant-loop-row l =
    l.moves ≡ written (renumbered l.initial.moves l.map l.width l.width) (l.row * l.width) l.initial.moves
