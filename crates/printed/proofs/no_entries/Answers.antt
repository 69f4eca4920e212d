-- The length of repeated zeros; level and type are given so that antt does not unfold the array to compare.
use mathlib.Core.Path.{refl}
use Prim.Native.Nat.{ℕ}
use lib.ListN.{length-replicate}
use Rattle.printed.specs.Prints.{entries}
use Rattle.printed.specs.Prints.{zeros}
use Rattle.printed.proofs.no_entries.Goals as goal

pub returns : goal.returns
unfolding zeros
returns c = (refl, length-replicate {0} {A = ℕ} entries 0)
