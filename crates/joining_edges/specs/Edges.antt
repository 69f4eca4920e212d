-- The edges of two texts as one, as the code gathers them in an array (SPECIFICATION 18.4). Definitions only.
use Rattle.std.specs.Prelude.{◌≡◌, cond, List, [], ◌∷◌, ℕ, ◌+◌, ◌*◌, ◌≤◌, ◌<◌, eqb, length, get_or}
use Rattle.limits.specs.Limits.{clock_limit, location_limit, edge_limit}
use Rattle.reader_record.specs.declared.Edge.{Edge}
use Rattle.reader_record.specs.declared.Text.{Text}
use Rattle.reader_record.specs.Record.{no_edge, channel}
use Rattle.reader_record.specs.Formed.{WellFormed}
use Rattle.joining_items.specs.Items.{NearEdge, joined_by}
use Rattle.joining_edges.specs.declared.Edges.{Edges}

-- a table of the right's steps as a function of the left's (SPECIFICATION 9.2)
abbrev pub by_map : List ℕ → ℕ → ℕ
by_map map c = get_or map c 0

-- edge i of an array
abbrev pub edge_at : List Edge → ℕ → Edge
edge_at edges i = get_or edges i no_edge

-- a left edge with each right edge of a list that is on channel d, of texts with m and n clocks and w locations on the
-- right: `paired_with` by the numbers that it takes from the texts
unfoldable pub with_by : ℕ → ℕ → ℕ → ℕ → Edge → List Edge → List Edge
with_by m n w d a [] = []
with_by m n w d a (b ∷ bs) =
    let more = with_by m n w d a bs in
    cond (eqb d (channel b.label)) (joined_by m n w a b ∷ more) more

-- two texts whose clocks and pairs of locations are within the limits: the numbers of joined clocks and locations fit
-- into an edge (SPECIFICATION 18.8)
pub record Pairable (l r : Text) : Type 0 where
  pub left : WellFormed l
  pub right : WellFormed r
  pub clocks : l.clock_count + r.clock_count ≤ clock_limit
  pub locations : l.location_count * r.location_count ≤ location_limit

-- es has the edges xs, and they are within the limit
pub record Holds (xs : List Edge) (es : Edges) : Type 0 where
  pub count : es.count ≡ length xs
  pub few : es.count ≤ edge_limit
  pub room : length es.list ≡ edge_limit
  pub each : (i : ℕ) → i < length xs → NearEdge (edge_at xs i) (edge_at es.list i)

-- es has the edges xs, or says that they pass the limit
pub record Gathered (xs : List Edge) (es : Edges) : Type 0 where
  pub within : es.count ≤ edge_limit → Holds xs es
  pub over : edge_limit < es.count → edge_limit < length xs
