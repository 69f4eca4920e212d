-- The byte behind the last counts as 0, as in the definition of a bit.
use native.Mathlib.Omega.{arith}
use mathlib.Core.Path.{subst}
use Prim.Native.Nat.{ℕ, ◌/◌, ◌%◌}
use lib.ListN.{get_or}
use Rattle.tables_ranges.proofs.Laws.{neighbours}
use mathlib.Core.List.{[], ◌∷◌}
use Rattle.tables_ranges.specs.Cut.{Eight}
use Rattle.tables_ranges.proofs.eight_bits.Goals as goal

pub returns : goal.returns
returns c =
    let args = c.args in
    let s = args.source.now in
    let q = args.v / 8 in
    let n = args.v % 8 in
    let low = c.byte_at-low in
    neighbours s args.v q n c.shifted.result (omega arith) (omega arith)
    (subst (λ (x : ℕ). Eight (get_or s q 0 ∷ x ∷ []) n c.shifted.result) low.ensures c.shifted.ensures)
