-- What the reader has read: the declared names by their slots, the record so far, to which items are added in their
-- order (SPECIFICATION 4.4, 5.1), and the place behind it. A part of the text leads from one to the next, or is refused.
use Rattle.std.specs.Prelude.{Bool, cond, List, ℕ, ◌+◌, Result, Ok, get_or, set, replicate}
use Rattle.reader_record.specs.Record.{no_name, no_channel}
use Rattle.reader_record.specs.declared.Name.{Name}
use Rattle.reader_record.specs.declared.Channel.{Channel}
use Rattle.reader_record.specs.declared.Direction.{Direction}
use Rattle.reader_record.specs.declared.Direction.TheVariants as direction
use Rattle.reader_record.specs.declared.Label.TheVariants as label
use Rattle.reader_record.specs.declared.Constraint.{Constraint}
use Rattle.reader_record.specs.declared.Edge.{Edge}
use Rattle.reader_record.specs.declared.Text.{Text}
use Rattle.reader_parts.specs.declared.Fault.{Fault}
use Rattle.reader_parts.specs.Stages.{◌>>=◌, take}
use Rattle.reader_constraints.specs.Constraints.{blank_constraint}
use Rattle.reader_edges.specs.Assigns.{no_assignments}
use Rattle.limits.specs.Limits.{channel_limit, clock_limit, location_limit, edge_limit}

pub record State : Type 0 where
  pub names : List Name
  pub text : Text
  pub place : ℕ

-- the three as one
abbrev pub state_of : List Name → Text → ℕ → State
state_of names text p = record { names = names; text = text; place = p }

-- no edge, and as long as the code's arrays (the `no_edge` of reader_record stands past the end of a list, where an
-- array inside is empty)
unfoldable pub blank_edge : Edge
blank_edge = record {
  source = 0;
  target = 0;
  guard = blank_constraint;
  label = label.Input 0;
  assignments = no_assignments;
}

-- a record of which nothing is read
unfoldable pub no_text : Text
no_text = record {
  channels = replicate channel_limit no_channel;
  channel_count = 0;
  clocks = replicate clock_limit no_name;
  clock_count = 0;
  locations = replicate location_limit (record { name = no_name; invariant = blank_constraint });
  location_count = 0;
  init = 0;
  edges = replicate edge_limit blank_edge;
  edge_count = 0;
}

-- the next token, which has to be of the kind k
unfoldable pub next_token : List ℕ → ℕ → State → Result State Fault
next_token s k r = take s r.place k >>= λ p. Ok (state_of r.names r.text p)

-- one channel more, which no edge names yet (SPECIFICATION 5.1)
unfoldable pub with_channel : Text → Name → Text
with_channel t n = record {
  channels = set t.channels t.channel_count (record { name = n; direction = direction.Unused });
  channel_count = t.channel_count + 1;
  clocks = t.clocks;
  clock_count = t.clock_count;
  locations = t.locations;
  location_count = t.location_count;
  init = t.init;
  edges = t.edges;
  edge_count = t.edge_count;
}

-- one clock more
unfoldable pub with_clock : Text → Name → Text
with_clock t n = record {
  channels = t.channels;
  channel_count = t.channel_count;
  clocks = set t.clocks t.clock_count n;
  clock_count = t.clock_count + 1;
  locations = t.locations;
  location_count = t.location_count;
  init = t.init;
  edges = t.edges;
  edge_count = t.edge_count;
}

-- one location more, with its invariant (SPECIFICATION 5.1)
unfoldable pub with_location : Text → Name → Constraint → Text
with_location t n c = record {
  channels = t.channels;
  channel_count = t.channel_count;
  clocks = t.clocks;
  clock_count = t.clock_count;
  locations = set t.locations t.location_count (record { name = n; invariant = c });
  location_count = t.location_count + 1;
  init = t.init;
  edges = t.edges;
  edge_count = t.edge_count;
}

-- the direction that a mark says (SPECIFICATION 3.6)
unfoldable pub direction_by : Bool → Direction
direction_by input = cond input direction.Input direction.Output

-- channel k of the list has the direction that its mark says
unfoldable pub marked : List Channel → ℕ → Bool → List Channel
marked channels k input =
    set channels k (record { name = (get_or channels k no_channel).name; direction = direction_by input })

-- one edge more, and the direction of its channel (SPECIFICATION 3.6, 5.1)
unfoldable pub with_edge : Text → Edge → ℕ → Bool → Text
with_edge t e k input = record {
  channels = marked t.channels k input;
  channel_count = t.channel_count;
  clocks = t.clocks;
  clock_count = t.clock_count;
  locations = t.locations;
  location_count = t.location_count;
  init = t.init;
  edges = set t.edges t.edge_count e;
  edge_count = t.edge_count + 1;
}

-- the `init` location (SPECIFICATION 5.1)
unfoldable pub with_init : Text → ℕ → Text
with_init t i = record {
  channels = t.channels;
  channel_count = t.channel_count;
  clocks = t.clocks;
  clock_count = t.clock_count;
  locations = t.locations;
  location_count = t.location_count;
  init = i;
  edges = t.edges;
  edge_count = t.edge_count;
}
