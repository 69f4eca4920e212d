-- join_locations: the pairs passed so far have both invariants; their places are within the lists.
use mathlib.Core.Path.{◌≡◌}
use Prim.Native.Nat.{ℕ, ◌/◌, ◌%◌, ◌<◌}
use lib.ListN.{length}
use Rattle.limits.specs.Limits.{location_limit}
use Rattle.joined.specs.Joined.{both_constraints}
use Rattle.joining_items.specs.Items.{Nearly}
use Rattle.joining_record.specs.Records.{invariant_at}
use Rattle.joining_record.proofs.join_locations.Given as goal

abbrev pub invariant-loop-pair : goal.invariant-loop-pair
invariant-loop-pair l = (length l.list ≡ location_limit)
    × ((j : ℕ) → j < l.pair → Nearly
    (both_constraints l.clocks (invariant_at l.left (j / l.width)) (invariant_at l.right (j % l.width))) (invariant_at l.list j))
