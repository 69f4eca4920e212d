-- `renumber` writes the table row by row: the first rows are those of `renumbered`, the others still as they were.
use Prim.Native.Nat.{ℕ, ◌*◌}
use native.Mathlib.Omega.{arith}
use mathlib.Core.Path.{◌≡◌, refl, sym, ◌∙◌, ap}
use Rattle.bitmaps.specs.Bits.{written}
use Rattle.bitmaps.specs.BitLaws.{written_none}
use Rattle.pairing.proofs.Turns.{rows_more}
use Rattle.pairing.specs.Table.{renumbered}
use Rattle.pairing.proofs.renumber.Goals as goal

pub loop-row-init : goal.loop-row-init
loop-row-init c =
    let a = c.args in
    let f = renumbered a.moves.now a.map a.width a.width in
    let none : 0 ≡ 0 * a.width = omega arith in
    sym (written_none _ _) ∙ ap (λ (k : ℕ). written f k a.moves.now) none

pub loop-row-preserved : goal.loop-row-preserved
loop-row-preserved c =
    rows_more c.requires c.loop-row.row c.loop-row-test.true _ _ _ refl c.loop-row.invariant c.renumber_row.ensures
