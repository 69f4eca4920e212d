-- Those of the first i bits were counted that are set.
use Rattle.std.proofs.Common.{◌≡◌, Bool, List, ℕ, ◌+◌, ◌≤◌, drop}
use Rattle.systems.specs.Tests.{ones}
use Rattle.bitmaps.specs.Packed.{Packed}
use Rattle.bitmaps.proofs.count.Given as goal

abbrev pub invariant-loop-i : goal.invariant-loop-i
invariant-loop-i l = (l.r ≤ l.i)
    × ((X : List Bool) (d : List ℕ) → Packed l.n X d l.s → l.r + ones (drop l.i X) ≡ ones X)
