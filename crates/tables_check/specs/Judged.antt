-- What is found in a table's pairs, by the systems: 19, then 20 with the least step; the lowest pair by row, then
-- column (SPECIFICATION 11.5).
use Rattle.std.specs.Prelude.{◌≡◌, Bool, not, ◌&&◌, cond, ℕ, suc, ◌<◌, Result, Ok, Err, ⊤}
use Rattle.systems.specs.Tests.{least}
use Rattle.systems.specs.Definitions.{Signature}
use Rattle.systems.specs.Finite.{FiniteSystem, safe, pruned, step_ok}
use Rattle.tables_check.specs.Fault.{step_fault, picked, table_from}
use Rattle.tables_check.specs.declared.Fault.{Fault}
use Rattle.tables_check.specs.declared.Fault.TheVariants.{NotAllowed}
use Rattle.tables_check.specs.declared.FailedPair.{FailedPair}

-- L the left, R the right, X the relation that the table denotes
module _ {A : Signature} (L R : FiniteSystem A) (X : ℕ → ℕ → Bool) where
  -- step c breaks a rule at the pair (s, t), the left pruned (SPECIFICATION 9.3, 9.4)
  unfoldable pub breaks : ℕ → ℕ → ℕ → Bool
  breaks s t c = not (step_ok A (pruned L) R.next X s t c)

  -- the least step that breaks a rule, past the last step if none does
  unfoldable pub least_broken : ℕ → ℕ → ℕ
  least_broken s t = least (breaks s t) 0 (suc A.channels)

  -- what a pair that is set fails at: 19 for its states, else 20 for a rule (SPECIFICATION 11.5)
  unfoldable pub pair_fault : ℕ → ℕ → Result ⊤ Fault
  pair_fault s t =
      let broken = step_fault (suc A.channels) (least_broken s t) in
      cond (X s t) (cond (safe L s && R.holds t) broken (Err NotAllowed)) (Ok tt)

  -- the lowest pair that fails, by row, then column (SPECIFICATION 11.5)
  unfoldable pub pairs_judged : Result ⊤ FailedPair
  pairs_judged = table_from pair_fault R.size L.size 0

-- no pair of n rows and w columns fails
abbrev pub NoFault : (ℕ → ℕ → Result ⊤ Fault) → ℕ → ℕ → Type 0
NoFault f n w = (s t : ℕ) → s < n → t < w → f s t ≡ Ok tt

-- x names the lowest pair that fails, by row, then column, and what it fails at
pub record LowestFault (f : ℕ → ℕ → Result ⊤ Fault) (n w : ℕ) (x : Result ⊤ FailedPair) : Type 0 where
  pub s : ℕ
  pub t : ℕ
  pub row_in : s < n
  pub column_in : t < w
  pub fails : f s t ≡ Ok tt → ⊥
  pub earlier_rows : (i j : ℕ) → i < s → j < w → f i j ≡ Ok tt
  pub earlier_columns : (j : ℕ) → j < t → f s j ≡ Ok tt
  pub named : x ≡ picked (f s t) s t (Ok tt)
