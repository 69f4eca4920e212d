-- has_few_guards: every guard passed so far has few comparisons.
use mathlib.Core.Path.{◌≡◌}
use mathlib.Core.Bool.{true}
use Prim.Native.Nat.{ℕ, ◌<◌}
use Rattle.joined.specs.Joined.{few}
use Rattle.joining_edges.specs.Edges.{edge_at}
use Rattle.joining_record.proofs.has_few_guards.Given as goal

abbrev pub invariant-loop-i : goal.invariant-loop-i
invariant-loop-i l = (j : ℕ) → j < l.i → few (edge_at l.es.list j).guard ≡ true
