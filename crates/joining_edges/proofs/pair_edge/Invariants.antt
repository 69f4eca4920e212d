-- pair_edge: the right edges passed so far have added what `with_by` has of them; one more than the limit is too many.
use mathlib.Core.Path.{◌≡◌}
use mathlib.Core.List.{List, ◌++◌}
use Prim.Native.Nat.{◌≤◌}
use lib.ListN.{length}
use Rattle.limits.specs.Limits.{edge_limit}
use Rattle.bitmaps.specs.Bits.{tab_from}
use Rattle.reader_record.specs.declared.Edge.{Edge}
use Rattle.joining_edges.specs.Edges.{with_by, edge_at, Holds}
use Rattle.joining_edges.proofs.pair_edge.Given as goal

abbrev pub invariant-loop-i : goal.invariant-loop-i
invariant-loop-i l = (length l.list ≡ edge_limit) × (l.count ≤ edge_limit)
    × ((xs : List Edge) → Holds xs (record { list = l.initial.list; count = l.initial.count })
    → Holds (xs ++ with_by l.m l.n l.w l.d l.a (tab_from (edge_at l.right) 0 l.i)) (record { list = l.list; count = l.count }))
