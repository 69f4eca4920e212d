-- The table of a test, entry by entry.
use Rattle.std.specs.Prelude.{◌≡◌, Bool, ℕ, ◌<◌}
use Rattle.systems.specs.Bools.{T_same}
use Rattle.systems.specs.Tests.{at, table}
use Rattle.systems.proofs.Sieve.{at_table}

pub table_at : (n : ℕ) (p : ℕ → Bool) (i : ℕ) → i < n → at (table n p) i ≡ p i
table_at n p i h = T_same (at (table n p) i) (p i) (λ t. ((at_table n p i).0 t).1) (λ t. (at_table n p i).1 (h, t))
