-- The items from here on, after those before, are the items from the start, and so are those beside a fault; each turn
-- leaves fewer bytes.
use Rattle.std.specs.Prelude.{◌≡◌, Ok}
use Rattle.reader_parts.specs.Progress.{left}
use Rattle.reader_edges.specs.Assigns.{no_assignments, assign_items}
use Rattle.reader_edges.specs.SoFar.{assign_items_so_far}
use Rattle.reader_edges.proofs.assign_items.Given as goal

abbrev pub invariant-loop-x : goal.invariant-loop-x
invariant-loop-x l = record {
  rest : assign_items l.period l.s l.names l.q l.all ≡ assign_items l.period l.s l.names l.p no_assignments;
  so_far : assign_items_so_far l.period l.s l.names (Ok l.q) l.all
      ≡ assign_items_so_far l.period l.s l.names (Ok l.p) no_assignments;
}

abbrev pub decreases-loop-x : goal.decreases-loop-x
decreases-loop-x l = left l.s l.q
