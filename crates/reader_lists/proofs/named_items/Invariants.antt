-- The items from here on are the items from the start, and so is what is read of them before a fault, whatever the rest of
-- the record is.
use Rattle.std.specs.Prelude.{◌≡◌, List, ℕ, ◌-◌}
use Rattle.reader_record.specs.declared.Edge.{Edge}
use Rattle.reader_parts.specs.Stages.{◌>>=◌}
use Rattle.reader_lists.specs.Lists.{limit, items_from, items}
use Rattle.reader_lists.specs.Turns.{item}
use Rattle.reader_lists.specs.State.{state_of}
use Rattle.reader_lists.specs.SoFar.{items_so_far_from, items_so_far}
use Rattle.reader_lists.specs.Heads.{whole, held, rest_so_far}
use Rattle.reader_lists.proofs.named_items.Given as goal

abbrev pub invariant-loop : goal.invariant-loop
invariant-loop l = record {
  reads : (init : ℕ) (edges : List Edge) (count : ℕ)
      → (l.at >>= λ p. items_from l.period (limit (item l.k) - l.counter) (item l.k) l.s
      (state_of l.q.names (whole l.q.head init edges count) p))
      ≡ (l.fn.at >>= λ p. items l.period (item l.k) l.s (state_of l.fn.r.names (whole l.fn.r.head init edges count) p));
  stops : (init : ℕ) (edges : List Edge) (count : ℕ)
      → items_so_far_from l.period (limit (item l.k) - l.counter) (item l.k) l.s l.at (rest_so_far l.q init edges count)
      ≡ items_so_far l.period (item l.k) l.s l.fn.at (rest_so_far (held l.fn.r) init edges count);
}
