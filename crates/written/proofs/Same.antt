-- Two records that say the same: their items below the counts are equal, but for the byte places of names.
use Rattle.std.specs.Prelude.{◌≡◌, Bool, true, false, cond, List, [], ◌++◌, ℕ, zero, suc, ◌-◌, ◌≤◌, ◌<◌, eqb, length, drop, get_or, Result, Ok}
use Rattle.reader_record.specs.Record.{no_channel, no_name, no_location, no_assignment, comparison, written_once, assignment, edge, invariant_of, channel}
use Rattle.reader_record.specs.declared.Name.{Name}
use Rattle.reader_record.specs.declared.Direction.{Direction}
use Rattle.reader_record.specs.declared.Direction.TheVariants as direction
use Rattle.reader_record.specs.declared.Constraint.{Constraint}
use Rattle.reader_record.specs.declared.Label.{Label}
use Rattle.reader_record.specs.declared.Label.TheVariants.{Input, Output}
use Rattle.reader_record.specs.declared.Edge.{Edge}
use Rattle.reader_record.specs.declared.Text.{Text}
use Rattle.refusals.specs.declared.Refusal.{Refusal}
use Rattle.refusals.specs.Answers.{answer_of}
use Rattle.reader.specs.Reading.{record_of}
use Rattle.written.specs.Written.{clock_called, location_called}

-- the name n is spelled w
pub record Spells (s : List ℕ) (n : Name) (w : List ℕ) : Type 0 where
  pub size : n.len ≡ length w
  pub rest : List ℕ
  pub there : drop n.place s ≡ w ++ rest

-- a guard or an invariant: equal comparisons
pub record SameConstraint (g h : Constraint) : Type 0 where
  pub count : h.count ≡ g.count
  pub each : (i : ℕ) → i < g.count → comparison h i ≡ comparison g i

-- whether a label has the mark of an input
unfoldable pub is_input_label : Label → Bool
is_input_label (Input c) = true
is_input_label (Output c) = false

unfoldable pub label_direction : Label → Direction
label_direction (Input c) = direction.Input
label_direction (Output c) = direction.Output

-- how the first n edges of a text use channel number i, from 0
unfoldable pub direction_after : Text → ℕ → ℕ → Direction
direction_after t zero i = direction.Unused
direction_after t (suc n) i =
    let before = direction_after t n i in
    cond (eqb (channel (edge t n).label - 1) i) (label_direction (edge t n).label) before

-- an edge in a text with so many clocks
pub record SameEdge (clocks : ℕ) (e f : Edge) : Type 0 where
  pub source : f.source ≡ e.source
  pub target : f.target ≡ e.target
  pub guard : SameConstraint e.guard f.guard
  pub label : f.label ≡ e.label
  -- each assignment is written once, with its value
  pub assignments : (i : ℕ) → i < clocks → assignment f i ≡ written_once (assignment e i)
  pub no_more : (i : ℕ) → clocks ≤ i → assignment f i ≡ no_assignment

-- x is the record t, read from the text s: the names are those that are written, and a channel has the direction in
-- which the edges use it
pub record SameText (s : List ℕ) (names : List (List ℕ)) (u : ℕ) (t x : Text) : Type 0 where
  pub channel_count : x.channel_count ≡ t.channel_count
  pub clock_count : x.clock_count ≡ t.clock_count
  pub location_count : x.location_count ≡ t.location_count
  pub edge_count : x.edge_count ≡ t.edge_count
  pub init : x.init ≡ t.init
  pub channel_names : (i : ℕ) → i < t.channel_count
      → Spells s (get_or x.channels i no_channel).name (get_or names i [])
  pub directions : (i : ℕ) → i < t.channel_count
      → (get_or x.channels i no_channel).direction ≡ direction_after t t.edge_count i
  pub clock_names : (i : ℕ) → i < t.clock_count → Spells s (get_or x.clocks i no_name) (clock_called u i)
  pub location_names : (i : ℕ) → i < t.location_count
      → Spells s (get_or x.locations i no_location).name (location_called u i)
  pub invariants : (i : ℕ) → i < t.location_count → SameConstraint (invariant_of t i) (invariant_of x i)
  pub edges : (i : ℕ) → i < t.edge_count → SameEdge t.clock_count (edge t i) (edge x i)

-- what is read is accepted, and is that record
pub record ReadBack (s : List ℕ) (names : List (List ℕ)) (u : ℕ) (t : Text) (p : Result Text Refusal) : Type 0 where
  pub accepted_is : answer_of p ≡ Ok tt
  pub same : SameText s names u t (record_of p)
