-- What the items of the joined record hold, as the code builds them in arrays of a fixed length. Definitions only.
use Rattle.std.specs.Prelude.{◌≡◌, ℕ, ◌+◌, ◌≤◌, ◌<◌}
use Rattle.limits.specs.Limits.{clock_limit, comparison_limit, location_limit}
use Rattle.reader_record.specs.declared.Constraint.{Constraint}
use Rattle.reader_record.specs.declared.Edge.{Edge}
use Rattle.reader_record.specs.Record.{comparison, assignment}
use Rattle.joined.specs.Joined.{pair, both_constraints, both_assignments}

-- r says what g says as far as there is room: its count is right even where it passes the limit (SPECIFICATION 18.8)
pub record Nearly (g r : Constraint) : Type 0 where
  pub count : r.count ≡ g.count
  pub each : (i : ℕ) → i < g.count → i < comparison_limit → comparison r i ≡ comparison g i

-- d says what e says, as far as there is room in its guard
pub record NearEdge (e d : Edge) : Type 0 where
  pub source : d.source ≡ e.source
  pub target : d.target ≡ e.target
  pub guard : Nearly e.guard d.guard
  pub label : d.label ≡ e.label
  pub assignments : (k : ℕ) → assignment d k ≡ assignment e k

-- two constraints that can be joined, where the left text has n clocks
pub record Joinable (n : ℕ) (g h : Constraint) : Type 0 where
  pub left_few : g.count ≤ comparison_limit
  pub right_few : h.count ≤ comparison_limit
  pub left_clocks : n ≤ clock_limit
  pub clocks : (i : ℕ) → i < h.count → (comparison h i).clock < clock_limit

-- two edges as one, of texts with m and n clocks and w locations on the right: `joined_edge` by the numbers that it
-- takes from the texts (SPECIFICATION 18.4)
unfoldable pub joined_by : ℕ → ℕ → ℕ → Edge → Edge → Edge
joined_by m n w a b = record {
  source = pair w a.source b.source;
  target = pair w a.target b.target;
  guard = both_constraints m a.guard b.guard;
  label = a.label;
  assignments = both_assignments m n a b;
}

-- two edges that can be joined
pub record EdgesJoinable (m n w : ℕ) (a b : Edge) : Type 0 where
  pub guards : Joinable m a.guard b.guard
  pub clocks : m + n ≤ clock_limit
  pub sources : pair w a.source b.source < location_limit
  pub targets : pair w a.target b.target < location_limit
