use mathlib.Core.Path.{◌≡◌}
use mathlib.Core.List.{List}
use Prim.Native.Nat.{ℕ, ◌≤◌}
use Rattle.clocks_safe.specs.Settle.{Held, Swept}
use Rattle.clocks_safe.proofs.settle.Given as goal

abbrev pub invariant-loop-s-2 : goal.invariant-loop-s-2
invariant-loop-s-2 l = (l.before ≡ l.initial.left) × (l.left ≤ l.before)
    × ((k₀ : List ℕ) → Held l.moves l.inputs l.n l.steps k₀ l.initial.keep l.initial.left
    → Held l.moves l.inputs l.n l.steps k₀ l.keep l.left)
    × (l.left ≡ l.before → Swept l.moves l.inputs l.n l.steps l.keep l.s)

abbrev pub invariant-loop-s : goal.invariant-loop-s
invariant-loop-s l = Held l.moves l.inputs l.n l.steps l.initial.keep l.keep l.left

abbrev pub decreases-loop-s : goal.decreases-loop-s
decreases-loop-s l = l.left
