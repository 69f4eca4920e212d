-- The record in two: its head, which is what stands before the edges, and the rest. The reader has the two apart while
-- it reads, and a part of the text is read right where that holds whatever the other one is.
use Rattle.std.specs.Prelude.{⊤, ◌≡◌, Bool, List, ℕ, ◌+◌, Result, Ok, Err, replicate, set}
use Rattle.reader_record.specs.declared.Name.{Name}
use Rattle.reader_record.specs.declared.Channel.{Channel}
use Rattle.reader_record.specs.declared.Constraint.{Constraint}
use Rattle.reader_record.specs.declared.Edge.{Edge}
use Rattle.reader_record.specs.declared.Text.{Text}
use Rattle.reader_parts.specs.declared.Fault.{Fault}
use Rattle.reader_parts.specs.declared.Stopped.{Stopped}
use Rattle.reader_parts.specs.Stages.{◌>>=◌}
use Rattle.reader_lists.specs.declared.Head.{Head}
use Rattle.reader_lists.specs.declared.HeadRead.{HeadRead}
use Rattle.reader_lists.specs.declared.HeadSoFar.{HeadSoFar}
use Rattle.reader_lists.specs.declared.EdgesRead.{EdgesRead}
use Rattle.reader_lists.specs.declared.EdgesSoFar.{EdgesSoFar}
use Rattle.reader_lists.specs.declared.Named.{Named}
use Rattle.reader_lists.specs.declared.Named.TheVariants as named
use Rattle.reader_lists.specs.Turns.{unused}
use Rattle.reader_lists.specs.SoFar.{SoFar, Goes}
use Rattle.reader_lists.specs.SoFar.{so_far}
use Rattle.reader_lists.specs.State.{State}
use Rattle.reader_lists.specs.State.{state_of, blank_edge, marked}
use Rattle.limits.specs.Limits.{edge_limit}

-- the record with this head, starting location, edges and number of edges
abbrev pub whole : Head → ℕ → List Edge → ℕ → Text
whole h init edges count = record {
  channels = h.channels;
  channel_count = h.channel_count;
  clocks = h.clocks;
  clock_count = h.clock_count;
  locations = h.locations;
  location_count = h.location_count;
  init = init;
  edges = edges;
  edge_count = count;
}

-- the head with those channels
abbrev pub with_channels : Head → List Channel → Head
with_channels h channels = record {
  channels = channels;
  channel_count = h.channel_count;
  clocks = h.clocks;
  clock_count = h.clock_count;
  locations = h.locations;
  location_count = h.location_count;
}

-- the edges of a record of which nothing is read
unfoldable pub no_edges : List Edge
no_edges = replicate edge_limit blank_edge

-- the state with what the reader has read of the head, where the rest of the record is given
abbrev pub with_rest : HeadRead → ℕ → List Edge → ℕ → State
with_rest r init edges count = state_of r.names (whole r.head init edges count) r.end

-- the state with what the reader has read of the edges, where the names, the head but for its channels and the starting
-- location are given
abbrev pub with_head : List Name → Head → ℕ → EdgesRead → State
with_head names h init e = state_of names (whole (with_channels h e.channels) init e.edges e.count) e.end

-- nothing of the edges is read, and the channels are given
abbrev pub before_edges : ℕ → List Channel → EdgesRead
before_edges p channels = record { channels = channels; edges = no_edges; count = 0; end = p }

-- a part of the text leads from r to q, or is refused, whatever the rest of the record is
abbrev pub ReadsHead : (State → Result State Fault) → HeadRead → Result HeadRead Fault → Type 0
ReadsHead part r q =
    (init : ℕ) (edges : List Edge) (count : ℕ)
    → part (with_rest r init edges count) ≡ (q >>= λ h. Ok (with_rest h init edges count))

-- a part of the text leads from r to q, or is refused, whatever the head and the starting location are
abbrev pub ReadsEdges : (State → Result State Fault) → List Name → EdgesRead → Result EdgesRead Fault → Type 0
ReadsEdges part names r q =
    (h : Head) (init : ℕ) → part (with_head names h init r) ≡ (q >>= λ e. Ok (with_head names h init e))

-- a part behind another one leads on from what that one read; a fault of it stays
abbrev pub LeadsOn : {A B : Type 0} → (A → Result B Fault → Type 0) → Result A Fault → Result B Fault → Type 0
LeadsOn part (Ok r) q = part r q
LeadsOn part (Err f) q = q ≡ Err f

-- what is read of the head, with the place behind it
abbrev pub head_at : HeadSoFar → ℕ → HeadRead
head_at r p = record { names = r.names; head = r.head; end = p }

-- the names and the head, without the place behind them
abbrev pub held : HeadRead → HeadSoFar
held r = record { names = r.names; head = r.head }

-- what is read of the edges, with the place behind it
abbrev pub edges_at : EdgesSoFar → ℕ → EdgesRead
edges_at r p = record { channels = r.channels; edges = r.edges; count = r.count; end = p }

-- no edges, and the channels are given
abbrev pub none_so_far : List Channel → EdgesSoFar
none_so_far channels = record { channels = channels; edges = no_edges; count = 0 }

-- one item of the kind k more in the head; c is the invariant of a location
abbrev pub added : Named → Head → Name → Constraint → Head
added named.Channel h n c = record {
  channels = set h.channels h.channel_count (unused n);
  channel_count = h.channel_count + 1;
  clocks = h.clocks;
  clock_count = h.clock_count;
  locations = h.locations;
  location_count = h.location_count;
}
added named.Clock h n c = record {
  channels = h.channels;
  channel_count = h.channel_count;
  clocks = set h.clocks h.clock_count n;
  clock_count = h.clock_count + 1;
  locations = h.locations;
  location_count = h.location_count;
}
added named.Location h n c = record {
  channels = h.channels;
  channel_count = h.channel_count;
  clocks = h.clocks;
  clock_count = h.clock_count;
  locations = set h.locations h.location_count (record { name = n; invariant = c });
  location_count = h.location_count + 1;
}

-- one edge more, with the direction of its channel
abbrev pub edge_added : EdgesSoFar → Edge → ℕ → Bool → EdgesSoFar
edge_added r e k input = record {
  channels = marked r.channels k input;
  edges = set r.edges r.count e;
  count = r.count + 1;
}

-- the names and the record, where the rest of the record is given
abbrev pub rest_so_far : HeadSoFar → ℕ → List Edge → ℕ → SoFar
rest_so_far r init edges count = so_far r.names (whole r.head init edges count)

-- the same, where the names, the head but for its channels and the starting location are given
abbrev pub head_so_far : List Name → Head → ℕ → EdgesSoFar → SoFar
head_so_far names h init e = so_far names (whole (with_channels h e.channels) init e.edges e.count)

-- a part of the text leads on from at to x, or is refused, and what is read goes from r to q by it, before a fault too,
-- whatever the rest of the record is
abbrev pub HeadGoes : (State → Result State Fault) → (Result ℕ Fault → SoFar → SoFar) → Result ℕ Fault → HeadSoFar
    → Result ℕ Fault → HeadSoFar → Type 0
HeadGoes part so_far at r x q =
    (init : ℕ) (edges : List Edge) (count : ℕ)
    → Goes part so_far at (rest_so_far r init edges count) x (rest_so_far q init edges count)

-- the same of the edges, whatever the head and the starting location are
abbrev pub EdgesGo : (State → Result State Fault) → (Result ℕ Fault → SoFar → SoFar) → List Name → Result ℕ Fault
    → EdgesSoFar → Result ℕ Fault → EdgesSoFar → Type 0
EdgesGo part so_far names at r x q =
    (h : Head) (init : ℕ) → Goes part so_far at (head_so_far names h init r) x (head_so_far names h init q)

-- what stands beside the fault of a part is what was read of the head, whatever the rest of the record is
abbrev pub HeadBeside : (SoFar → SoFar) → HeadSoFar → Result HeadRead (Stopped HeadSoFar) → Type 0
HeadBeside part r (Ok q) = ⊤
HeadBeside part r (Err e) =
    (init : ℕ) (edges : List Edge) (count : ℕ)
    → part (rest_so_far r init edges count) ≡ rest_so_far e.read init edges count

-- the same of the edges, whatever the head and the starting location are
abbrev pub EdgesBeside : (SoFar → SoFar) → List Name → EdgesSoFar → Result EdgesRead (Stopped EdgesSoFar) → Type 0
EdgesBeside part names r (Ok q) = ⊤
EdgesBeside part names r (Err e) =
    (h : Head) (init : ℕ) → part (head_so_far names h init r) ≡ head_so_far names h init e.read
