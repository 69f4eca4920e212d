-- What is found in a raster as the check's answer.
use Rattle.std.specs.Prelude.{◌≡◌, ℕ, ◌<◌, Result, Ok, Err}
use Rattle.steps.specs.declared.Step.{Step}
use Rattle.refusals.specs.declared.Refusal.{Refusal}
use Rattle.refusals.specs.Refusals.{start_pair_not_set, pair_not_allowed, rule_broken}
use Rattle.tables_whole.specs.declared.TableFault.{TableFault}
use Rattle.tables_whole.specs.declared.TableFault.TheVariants.{StartNotSet, NotAllowed, Broken}

-- what a raster is refused for, as the operation's refusal
unfoldable pub refusal_of : ℕ → ℕ → ℕ → TableFault → Refusal
refusal_of w ls rs StartNotSet = start_pair_not_set ls rs
refusal_of w ls rs (NotAllowed s t) = pair_not_allowed s t
refusal_of w ls rs (Broken step s t) = rule_broken w step s t

-- the answer about a raster as the operation's
abbrev pub check_of : ℕ → ℕ → ℕ → Result ℕ TableFault → Result ℕ Refusal
check_of w ls rs (Ok count) = Ok count
check_of w ls rs (Err fault) = Err (refusal_of w ls rs fault)

-- the pair of a broken rule is one of n rows and w columns
abbrev pub InTable : ℕ → ℕ → TableFault → Type 0
InTable n w fault = (c : Step) (s t : ℕ) → fault ≡ Broken c s t → (s < n) × (t < w)
