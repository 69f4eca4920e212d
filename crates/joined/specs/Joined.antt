-- The joined record of two records (SPECIFICATION 18.1 to 18.5, 18.8). Definitions only. The number f c is the right's
-- number of the left's step c (SPECIFICATION 9.1). Names are left out but for the channels', which are the left's: a
-- joined text is written with names of its own (SPECIFICATION 18.6).
use Rattle.std.specs.Prelude.{Bool, ◌&&◌, cond, List, [], ◌∷◌, ◌++◌, ℕ, suc, ◌+◌, ◌*◌, ◌/◌, ◌%◌, ◌≤◌, ◌<◌, T, leb, eqb, length, get_or}
use Rattle.systems.specs.Tests.{all, any}
use Rattle.bitmaps.specs.Bits.{tab_from}
use Rattle.limits.specs.Limits.{clock_limit, location_limit, edge_limit, comparison_limit}
use Rattle.reader_record.specs.declared.Direction.TheVariants.{Unused}
use Rattle.reader_record.specs.declared.Channel.{Channel}
use Rattle.reader_record.specs.declared.Comparison.{Comparison}
use Rattle.reader_record.specs.declared.Constraint.{Constraint}
use Rattle.reader_record.specs.declared.Location.{Location}
use Rattle.reader_record.specs.declared.Assignment.{Assignment}
use Rattle.reader_record.specs.declared.Edge.{Edge}
use Rattle.reader_record.specs.declared.Text.{Text}
use Rattle.reader_record.specs.Record.{no_name, no_channel, no_edge, comparison, written_once, assignment, edge, invariant_of, channel}

-- the number of a pair of locations, where the right has n: in order of left, then right (SPECIFICATION 18.2)
unfoldable pub pair : ℕ → ℕ → ℕ → ℕ
pair n p q = p * n + q

-- a comparison of the right: its clock k is clock n + k, where the left has n clocks (SPECIFICATION 18.3)
unfoldable pub shifted : ℕ → Comparison → Comparison
shifted n q = record { clock = n + q.clock; sign = q.sign; bound = q.bound }

-- a guard or an invariant: the left's comparisons, then the right's, where the left has n clocks (SPECIFICATION 18.3)
unfoldable pub both_constraints : ℕ → Constraint → Constraint → Constraint
both_constraints n g h = record {
  comparisons = tab_from (comparison g) 0 g.count ++ tab_from (λ i. shifted n (comparison h i)) 0 h.count;
  count = g.count + h.count;
}

-- the assignments of two edges: those of the left's m clocks, then those of the right's n (SPECIFICATION 18.5)
unfoldable pub both_assignments : ℕ → ℕ → Edge → Edge → List Assignment
both_assignments m n a b = tab_from (λ k. written_once (assignment a k)) 0 m
    ++ tab_from (λ k. written_once (assignment b k)) 0 n

-- a left edge and a right edge match: their channels pair up (SPECIFICATION 18.4)
unfoldable pub matching : (ℕ → ℕ) → Edge → Edge → Bool
matching f a b = eqb (f (channel a.label)) (channel b.label)

module _ (l r : Text) where
  -- location i is a pair, with both invariants (SPECIFICATION 18.2, 18.3)
  unfoldable pub joined_location : ℕ → Location
  joined_location i = record {
    name = no_name;
    invariant = both_constraints l.clock_count (invariant_of l (i / r.location_count))
        (invariant_of r (i % r.location_count));
  }

  -- a left edge a and a right edge b as one, with the left's label (SPECIFICATION 18.2 to 18.5)
  unfoldable pub joined_edge : Edge → Edge → Edge
  joined_edge a b = record {
    source = pair r.location_count a.source b.source;
    target = pair r.location_count a.target b.target;
    guard = both_constraints l.clock_count a.guard b.guard;
    label = a.label;
    assignments = both_assignments l.clock_count r.clock_count a b;
  }

  module _ (f : ℕ → ℕ) where
    -- a left edge with each right edge of a list that matches it, and so for each left edge of a list: by left edge,
    -- then right (SPECIFICATION 18.4)
    unfoldable pub paired_with : Edge → List Edge → List Edge
    paired_with a [] = []
    paired_with a (b ∷ bs) =
        let more = paired_with a bs in
        cond (matching f a b) (joined_edge a b ∷ more) more

    unfoldable pub paired : List Edge → List Edge → List Edge
    paired [] bs = []
    paired (a ∷ as') bs = paired_with a bs ++ paired as' bs

-- the edges of a text, and those of two texts joined
abbrev pub edges_of : Text → List Edge
edges_of t = tab_from (edge t) 0 t.edge_count

abbrev pub joined_edges : (ℕ → ℕ) → Text → Text → List Edge
joined_edges f l r = paired l r f (edges_of l) (edges_of r)

-- an edge of a list has channel c
unfoldable pub has_channel : List Edge → ℕ → Bool
has_channel es c = any (length es) (λ i. eqb (channel (get_or es i no_edge).label) c)

-- channel i, from 0, of a record with the edges es: the left's, but without a direction where no edge has it, as
-- reading gives it (SPECIFICATION 5.1, 18.4)
unfoldable pub joined_channel : Text → List Edge → ℕ → Channel
joined_channel l es i = record {
  name = (get_or l.channels i no_channel).name;
  direction = cond (has_channel es (suc i)) (get_or l.channels i no_channel).direction Unused;
}

-- the two texts joined, whether within the limits or not
unfoldable pub joined_text : (ℕ → ℕ) → Text → Text → Text
joined_text f l r = record {
  channels = tab_from (joined_channel l (joined_edges f l r)) 0 l.channel_count;
  channel_count = l.channel_count;
  clocks = [];
  clock_count = l.clock_count + r.clock_count;
  locations = tab_from (joined_location l r) 0 (l.location_count * r.location_count);
  location_count = l.location_count * r.location_count;
  init = pair r.location_count l.init r.init;
  edges = joined_edges f l r;
  edge_count = length (joined_edges f l r);
}

-- within the limits (SPECIFICATION 4.3, 18.8), but for the states, which are counted from the record, and the bytes
unfoldable pub few : Constraint → Bool
few g = leb g.count comparison_limit

pub record CountsFit (t : Text) : Type 0 where
  pub clocks : t.clock_count ≤ clock_limit
  pub locations : t.location_count ≤ location_limit
  pub edges : t.edge_count ≤ edge_limit
  pub invariants : (i : ℕ) → i < t.location_count → T (few (invariant_of t i))
  pub guards : (i : ℕ) → i < t.edge_count → T (few (edge t i).guard)

-- the same as a test
unfoldable pub counts_fit : Text → Bool
counts_fit t =
    leb t.clock_count clock_limit && (leb t.location_count location_limit
    && (leb t.edge_count edge_limit && (all t.location_count (λ i. few (invariant_of t i))
    && all t.edge_count (λ i. few (edge t i).guard))))
