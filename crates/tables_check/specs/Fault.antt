-- What is found in a table: the fault of a pair, and the lowest pair that fails, by row and then column
-- (SPECIFICATION 11.5).
use Rattle.std.specs.Prelude.{cond, ℕ, zero, suc, ◌+◌, ltb, Result, Ok, Err, ⊤}
use Rattle.steps.specs.declared.Step.{Step}
use Rattle.tables_check.specs.declared.Fault.{Fault}
use Rattle.tables_check.specs.declared.Fault.TheVariants.{NotAllowed, Broken}
use Rattle.tables_check.specs.declared.FailedPair.{FailedPair}
use Rattle.tables_check.specs.declared.FailedPair.TheVariants.{NotAllowedAt, BrokenAt}

-- the step whose number is c (SPECIFICATION 6.8)
abbrev pub step : ℕ → Step
step c = record { number = c }

-- 20 with the step c, if it is one of the steps
unfoldable pub step_fault : ℕ → ℕ → Result ⊤ Fault
step_fault steps c = cond (ltb c steps) (Err (Broken (step c))) (Ok tt)

-- the fault with the pair that fails at it
abbrev pub fault_of_pair : Fault → ℕ → ℕ → FailedPair
fault_of_pair NotAllowed s t = NotAllowedAt s t
fault_of_pair (Broken c) s t = BrokenAt c s t

-- what is found from the pair (s, t) on, where `rest` is the answer of the later pairs
unfoldable pub picked : Result ⊤ Fault → ℕ → ℕ → Result ⊤ FailedPair → Result ⊤ FailedPair
picked (Ok fine) s t rest = rest
picked (Err fault) s t rest = Err (fault_of_pair fault s t)

-- the first fault in m columns of row s from column t on, or else that of the later rows
unfoldable pub row_from : (ℕ → ℕ → Result ⊤ Fault) → ℕ → ℕ → ℕ → Result ⊤ FailedPair → Result ⊤ FailedPair
row_from f s zero t rest = rest
row_from f s (suc m) t rest = picked (f s t) s t (row_from f s m (t + 1) rest)

-- the lowest pair that fails in m rows from row s on, by row, then column (SPECIFICATION 11.5)
unfoldable pub table_from : (ℕ → ℕ → Result ⊤ Fault) → ℕ → ℕ → ℕ → Result ⊤ FailedPair
table_from f w zero s = Ok tt
table_from f w (suc m) s = row_from f s w 0 (table_from f w m (s + 1))
