-- The edges from here on are the edges from the start, and so is what is read of them before a fault, whatever the head
-- and the starting location are.
use Rattle.std.specs.Prelude.{◌≡◌, ℕ, ◌-◌}
use Rattle.reader_parts.specs.Stages.{◌>>=◌}
use Rattle.reader_lists.specs.declared.Head.{Head}
use Rattle.reader_lists.specs.Lists.{Item}
use Rattle.reader_lists.specs.Lists.{items_from, items}
use Rattle.reader_lists.specs.SoFar.{items_so_far_from, items_so_far}
use Rattle.reader_lists.specs.Heads.{with_head, edges_at, none_so_far, head_so_far}
use Rattle.limits.specs.Limits.{edge_limit}
use Rattle.reader_lists.proofs.edges.Given as goal

abbrev pub invariant-loop : goal.invariant-loop
invariant-loop l = record {
  reads : (h : Head) (init : ℕ)
      → (l.at >>= λ p. items_from l.period (edge_limit - l.counter) Item.Edge l.s (with_head l.names h init (edges_at l.q p)))
      ≡ (l.fn.at >>= λ p. items l.period Item.Edge l.s (with_head l.names h init (edges_at (none_so_far l.fn.channels) p)));
  stops : (h : Head) (init : ℕ)
      → items_so_far_from l.period (edge_limit - l.counter) Item.Edge l.s l.at (head_so_far l.names h init l.q)
      ≡ items_so_far l.period Item.Edge l.s l.fn.at (head_so_far l.names h init (none_so_far l.fn.channels));
}
