-- `number_at` is the clamped value: clamping on the way does not change it.
use Prim.Native.Nat.{◌≤◌}
use mathlib.Core.Path.{◌≡◌}
use lib.ListN.{drop}
use Rattle.reader_tokens.specs.Scan.{numeral_value, over_numeral, clamped}
use Rattle.reader_tokens.proofs.number_at.Given as goal

abbrev pub invariant-loop-i : goal.invariant-loop-i
invariant-loop-i l = (l.v ≤ over_numeral)
    × (clamped (numeral_value l.v (drop l.i l.s)) ≡ clamped (numeral_value 0 (drop l.p l.s)))
