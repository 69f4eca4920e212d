-- Two records that say the same: their items below the counts are equal, whatever names and filling they have. The
-- record that is read from a joined text, and one that code builds in arrays, are such records. Definitions only; laws
-- in AlikeLaws.antt.
use Rattle.std.specs.Prelude.{◌≡◌, ℕ, ◌<◌}
use Rattle.reader_record.specs.declared.Constraint.{Constraint}
use Rattle.reader_record.specs.declared.Edge.{Edge}
use Rattle.reader_record.specs.declared.Text.{Text}
use Rattle.reader_record.specs.Record.{comparison, assignment, edge, invariant_of}
use Rattle.clocks.specs.States.{input}

-- a guard or an invariant: equal comparisons
pub record AlikeConstraint (g h : Constraint) : Type 0 where
  pub count : h.count ≡ g.count
  pub each : (i : ℕ) → i < g.count → comparison h i ≡ comparison g i

pub record AlikeEdge (e d : Edge) : Type 0 where
  pub source : d.source ≡ e.source
  pub target : d.target ≡ e.target
  pub guard : AlikeConstraint e.guard d.guard
  pub label : d.label ≡ e.label
  pub assignments : (k : ℕ) → assignment d k ≡ assignment e k

-- x says what t says. Of a channel's direction only whether it is an input: all others are outputs (SPECIFICATION 3.6)
pub record Alike (t x : Text) : Type 0 where
  pub channel_count : x.channel_count ≡ t.channel_count
  pub clock_count : x.clock_count ≡ t.clock_count
  pub location_count : x.location_count ≡ t.location_count
  pub edge_count : x.edge_count ≡ t.edge_count
  pub init : x.init ≡ t.init
  pub inputs : (c : ℕ) → input x c ≡ input t c
  pub invariants : (i : ℕ) → i < t.location_count → AlikeConstraint (invariant_of t i) (invariant_of x i)
  pub edges : (i : ℕ) → i < t.edge_count → AlikeEdge (edge t i) (edge x i)
