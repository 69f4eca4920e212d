-- join_constraint: the comparisons passed so far are those of `both_constraints`.
use mathlib.Core.Path.{◌≡◌}
use Prim.Native.Nat.{ℕ, ◌<◌}
use lib.ListN.{length, get_or}
use Rattle.reader_record.specs.Record.{no_comparison, comparison}
use Rattle.limits.specs.Limits.{comparison_limit}
use Rattle.joined.specs.Joined.{both_constraints}
use Rattle.joining_items.proofs.join_constraint.Given as goal

abbrev pub invariant-loop-i : goal.invariant-loop-i
invariant-loop-i l = (length l.list ≡ comparison_limit)
    × ((j : ℕ) → j < l.i → get_or l.list j no_comparison ≡ comparison (both_constraints l.n l.g l.h) j)
