-- What reading promises of a record: the limits (SPECIFICATION 4.3), that the numbers in it are those of declared
-- clocks, locations and channels (SPECIFICATION 3.5), and that a channel has the direction in which the edges use it
-- (SPECIFICATION 3.6, 5.1).
use Rattle.std.specs.Prelude.{◌≡◌, Bool, true, false, List, ℕ, ◌≤◌, ◌<◌, T, ltb, get_or}
use Rattle.reader_record.specs.declared.Direction.{Direction}
use Rattle.reader_record.specs.declared.Direction.TheVariants.{Unused, Input as In, Output as Out}
use Rattle.reader_record.specs.declared.Label.{Label}
use Rattle.reader_record.specs.declared.Label.TheVariants.{Input, Output}
use Rattle.reader_record.specs.declared.Sign.{Sign}
use Rattle.reader_record.specs.declared.Sign.TheVariants.{AtMost, AtLeast, Equal, Less, Greater}
use Rattle.reader_record.specs.declared.Constraint.{Constraint}
use Rattle.reader_record.specs.declared.Assignment.{Assignment}
use Rattle.reader_record.specs.declared.Text.{Text}
use Rattle.reader_record.specs.Record.{no_assignment, direction_of, comparison, edge, invariant_of, channel}
use Rattle.limits.specs.Limits.{channel_limit, clock_limit, location_limit, edge_limit, comparison_limit, largest_constant}

-- the mark of a label is that of the channel's direction (SPECIFICATION 3.6)
unfoldable pub agrees : Label → Direction → Bool
agrees (Input c) Unused = false
agrees (Input c) In = true
agrees (Input c) Out = false
agrees (Output c) Unused = false
agrees (Output c) In = false
agrees (Output c) Out = true

-- an invariant may compare by the sign with the constant: by `<=`, or by `<` with one above 0 (SPECIFICATION 3.2)
unfoldable pub in_invariant : Sign → ℕ → Bool
in_invariant AtMost b = true
in_invariant AtLeast b = false
in_invariant Equal b = false
in_invariant Less b = ltb 0 b
in_invariant Greater b = false

-- a guard or an invariant in a text with so many clocks (SPECIFICATION 3.5, 4.3)
pub record FormedConstraint (clocks : ℕ) (g : Constraint) : Type 0 where
  pub few : g.count ≤ comparison_limit
  pub clock : (i : ℕ) → i < g.count → (comparison g i).clock < clocks
  pub bound : (i : ℕ) → i < g.count → (comparison g i).bound ≤ largest_constant

-- the assignments of an edge in a text with so many clocks: declared clocks alone are assigned (SPECIFICATION 3.5), to
-- values that are written, and those are allowed constants (SPECIFICATION 4.3, 5.4)
pub record FormedAssignments (clocks : ℕ) (all : List Assignment) : Type 0 where
  pub clock : (k : ℕ) → (get_or all k no_assignment).made ≡ true → k < clocks
  pub written : (k : ℕ) → (get_or all k no_assignment).value ≤ (get_or all k no_assignment).largest
  pub allowed : (k : ℕ) → (get_or all k no_assignment).largest ≤ largest_constant

pub record WellFormed (t : Text) : Type 0 where
  -- the limits (SPECIFICATION 4.3)
  pub channels : t.channel_count ≤ channel_limit
  pub clocks : t.clock_count ≤ clock_limit
  pub locations : t.location_count ≤ location_limit
  pub edges : t.edge_count ≤ edge_limit
  -- the start is a declared location (SPECIFICATION 3.5)
  pub init : t.init < t.location_count
  -- an invariant compares declared clocks with allowed constants, by `<=` and `<` alone (SPECIFICATION 3.2)
  pub invariant : (l : ℕ) → l < t.location_count → FormedConstraint t.clock_count (invariant_of t l)
  pub upper : (l i : ℕ) → l < t.location_count → i < (invariant_of t l).count
      → T (in_invariant (comparison (invariant_of t l) i).sign (comparison (invariant_of t l) i).bound)
  -- a guard compares declared clocks with allowed constants
  pub guard : (i : ℕ) → i < t.edge_count → FormedConstraint t.clock_count (edge t i).guard
  -- an edge leads from a declared location to a declared location (SPECIFICATION 3.5)
  pub source : (i : ℕ) → i < t.edge_count → (edge t i).source < t.location_count
  pub target : (i : ℕ) → i < t.edge_count → (edge t i).target < t.location_count
  -- the label of an edge is a declared channel, with the mark of the channel's direction (SPECIFICATION 3.6)
  pub direction : (i : ℕ) → i < t.edge_count → T
      (agrees (edge t i).label (direction_of t (channel (edge t i).label)))
  pub label : (i : ℕ) → i < t.edge_count → (0 < channel (edge t i).label)
      × (channel (edge t i).label ≤ t.channel_count)
  -- an edge assigns allowed constants to declared clocks
  pub assigned : (i : ℕ) → i < t.edge_count → FormedAssignments t.clock_count (edge t i).assignments
  -- a declared channel that has a direction is the label of an edge (SPECIFICATION 5.1)
  pub used : (c : ℕ) → 0 < c → c ≤ t.channel_count → (direction_of t c ≡ Unused → ⊥)
      → (i : ℕ) × (i < t.edge_count) × (channel (edge t i).label ≡ c)
