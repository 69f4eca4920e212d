-- The length and the bytes of repeated zeros; level and type are given so that antt does not unfold the array.
use Prim.Native.Nat.{ℕ}
use lib.ListN.{length-replicate}
use Rattle.limits.specs.Limits.{keep_limit}
use Rattle.tables_shifts.proofs.Bits.{zero_at}
use Rattle.tables_shifts.proofs.no_row.Goals as goal

pub returns : goal.returns
returns c = (length-replicate {0} {A = ℕ} keep_limit 0, zero_at keep_limit)
