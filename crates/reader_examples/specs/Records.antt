-- The records of the texts, written out: the names by byte place and length, clocks and locations from 0, channels from 1.
use Rattle.std.specs.Prelude.{true, List, [], ◌∷◌, ◌++◌, ℕ, ◌-◌, length, replicate}
use Rattle.reader_record.specs.Record.{no_name, no_channel, no_comparison, no_assignment}
use Rattle.reader_record.specs.declared.Name.{Name}
use Rattle.reader_record.specs.declared.Direction.{Direction}
use Rattle.reader_record.specs.declared.Direction.TheVariants as direction
use Rattle.reader_record.specs.declared.Channel.{Channel}
use Rattle.reader_record.specs.declared.Sign.{Sign}
use Rattle.reader_record.specs.declared.Sign.TheVariants.{AtMost, AtLeast, Less, Greater}
use Rattle.reader_record.specs.declared.Constraint.{Constraint}
use Rattle.reader_record.specs.declared.Location.{Location}
use Rattle.reader_record.specs.declared.Label.{Label}
use Rattle.reader_record.specs.declared.Label.TheVariants.{Input, Output}
use Rattle.reader_record.specs.declared.Assignment.{Assignment}
use Rattle.reader_record.specs.declared.Edge.{Edge}
use Rattle.reader_record.specs.declared.Text.{Text}
use Rattle.reader_lists.specs.State.{blank_edge}
use Rattle.reader_constraints.specs.Constraints.{blank_constraint}
use Rattle.limits.specs.Limits.{channel_limit, clock_limit, location_limit, edge_limit, comparison_limit}

-- a list as long as the code's array
abbrev filled : {A : Type 0} → ℕ → A → List A → List A
filled limit none l = l ++ replicate (limit - length l) none

abbrev at : ℕ → ℕ → Name
at place len = record { place = place; len = len }

abbrev channel : Name → Direction → Channel
channel n d = record { name = n; direction = d }

-- one comparison of the clock x
abbrev x_is : Sign → ℕ → Constraint
x_is sign bound =
    record {
      comparisons = filled comparison_limit no_comparison (record { clock = 0; sign = sign; bound = bound } ∷ []);
      count = 1;
    }

-- a clock is set to a value, the only one written or after a larger one
abbrev pub set_to : ℕ → Assignment
set_to v = record { made = true; value = v; largest = v }

abbrev set_after : ℕ → ℕ → Assignment
set_after largest v = record { made = true; value = v; largest = largest }

-- an edge, by what it does to the clock x
abbrev edge : ℕ → ℕ → Constraint → Label → Assignment → Edge
edge source target guard label x =
    record {
      source = source;
      target = target;
      guard = guard;
      label = label;
      assignments = filled clock_limit no_assignment (x ∷ []);
    }

abbrev location : Name → Constraint → Location
location name invariant = record { name = name; invariant = invariant }

-- what the texts have in common: the direction of `late`, the locations and the edges differ
abbrev marker : Direction → List Location → List Edge → Text
marker late ls es = record {
  channels =
      filled channel_limit no_channel
      (channel (at 15 4) direction.Input ∷ channel (at 21 5) direction.Input ∷ channel (at 28 4) late ∷ []);
  channel_count = 3;
  clocks = filled clock_limit no_name (at 57 1 ∷ []);
  clock_count = 1;
  locations = filled location_limit (location no_name blank_constraint) ls;
  location_count = length ls;
  init = 0;
  edges = filled edge_limit blank_edge es;
  edge_count = length es;
}

-- Wait with its invariant, and Done at a place in the text
abbrev wait_done : Constraint → ℕ → List Location
wait_done wait done = location (at 66 4) wait ∷ location (at done 4) blank_constraint ∷ []

-- the edges of Wait and Done: the first, and those behind it by what `spike` does to x and by the guard of `late`
abbrev first_edge : Edge
first_edge = edge 0 1 blank_constraint (Input 1) no_assignment

abbrev later_edges : Assignment → Constraint → List Edge
later_edges spike late =
    edge 0 0 blank_constraint (Input 2) spike
    ∷ edge 0 1 late (Output 3) no_assignment
    ∷ edge 1 1 blank_constraint (Input 1) no_assignment
    ∷ edge 1 1 blank_constraint (Input 2) no_assignment
    ∷ []

abbrev timed_edges : Assignment → Constraint → List Edge
timed_edges spike late = first_edge ∷ later_edges spike late

-- Post and seven others: the invariant of Wait, the place of Done, and the two edges differ
abbrev timed : Constraint → ℕ → Assignment → Constraint → Text
timed wait done spike late = marker direction.Output (wait_done wait done) (timed_edges spike late)

abbrev pub post_record : Text
post_record = timed (x_is AtMost 3) 83 no_assignment (x_is AtLeast 3)

-- the second edge assigns x: 0, 1, 1 after 7, 4
abbrev pub rearm_record : Text
rearm_record = timed (x_is AtMost 3) 83 (set_to 0) (x_is AtLeast 3)

abbrev pub woken_record : Text
woken_record = timed (x_is AtMost 3) 83 (set_to 1) (x_is AtLeast 3)

abbrev pub overridden_record : Text
overridden_record = timed (x_is AtMost 3) 83 (set_after 7 1) (x_is AtLeast 3)

abbrev pub too_late_record : Text
too_late_record = timed (x_is AtMost 3) 83 (set_to 4) (x_is AtLeast 3)

-- both constants are 2
abbrev pub early_record : Text
early_record = timed (x_is AtMost 2) 83 no_assignment (x_is AtLeast 2)

-- strict signs, and Done stands a byte earlier in the text
abbrev pub strict_record : Text
strict_record = timed (x_is Less 4) 82 no_assignment (x_is Greater 2)

-- the guard of `late` has the bound 2
abbrev pub loose_record : Text
loose_record = timed (x_is AtMost 3) 83 no_assignment (x_is AtLeast 2)

-- by the two constants, in ticks; Done stands three bytes later in the text
abbrev pub sheet_record : ℕ → ℕ → Text
sheet_record wait late = timed (x_is AtMost wait) 86 no_assignment (x_is AtLeast late)

-- Off with its invariant, and an edge from it to itself for each input
abbrev pub spare_record : Text
spare_record =
    marker direction.Output (wait_done (x_is AtMost 3) 83 ++ location (at 89 3) (x_is AtMost 0) ∷ [])
    (timed_edges no_assignment (x_is AtLeast 3)
    ++ edge 2 2 blank_constraint (Input 1) no_assignment
    ∷ edge 2 2 blank_constraint (Input 2) no_assignment
    ∷ [])

abbrev hushed : List Edge
hushed =
    edge 0 1 blank_constraint (Input 1) no_assignment
    ∷ edge 0 0 blank_constraint (Input 2) no_assignment
    ∷ edge 1 1 blank_constraint (Input 1) no_assignment
    ∷ edge 1 1 blank_constraint (Input 2) no_assignment
    ∷ []

-- no edge names `late`
abbrev pub hush_record : Text
hush_record = marker direction.Unused (wait_done (x_is AtMost 3) 83) hushed

-- no invariant, so that Done stands earlier in the text
abbrev pub idle_record : Text
idle_record = marker direction.Unused (wait_done blank_constraint 72) hushed

-- one edge more, behind the first
abbrev with_edge : Edge → Text
with_edge second =
    marker direction.Output (wait_done (x_is AtMost 3) 83) (first_edge ∷ second ∷ later_edges no_assignment (x_is AtLeast 3))

-- the first edge again; an edge to Wait; the first edge with x set to 0
abbrev pub twice_record : Text
twice_record = with_edge first_edge

abbrev pub stay_or_go_record : Text
stay_or_go_record = with_edge (edge 0 0 blank_constraint (Input 1) no_assignment)

abbrev pub reset_or_not_record : Text
reset_or_not_record = with_edge (edge 0 1 blank_constraint (Input 1) (set_to 0))

-- an edge for `spike` that sets x to 1 beside the one that does not; two such edges
abbrev waking : Edge
waking = edge 0 0 blank_constraint (Input 2) (set_to 1)

abbrev pub late_or_not_record : Text
late_or_not_record = with_edge waking

abbrev pub woken_twice_record : Text
woken_twice_record =
    marker direction.Output (wait_done (x_is AtMost 3) 83)
    (first_edge ∷ waking ∷ later_edges (set_to 1) (x_is AtLeast 3))
