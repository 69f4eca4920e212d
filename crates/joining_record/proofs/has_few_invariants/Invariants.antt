-- has_few_invariants: every invariant passed so far has few comparisons.
use mathlib.Core.Path.{◌≡◌}
use mathlib.Core.Bool.{true}
use Prim.Native.Nat.{ℕ, ◌<◌}
use Rattle.joined.specs.Joined.{few}
use Rattle.joining_record.specs.Records.{invariant_at}
use Rattle.joining_record.proofs.has_few_invariants.Given as goal

abbrev pub invariant-loop-i : goal.invariant-loop-i
invariant-loop-i l = (j : ℕ) → j < l.i → few (invariant_at l.list j) ≡ true
