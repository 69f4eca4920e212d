-- The lists of a text: channels, clocks, locations and edges (SPECIFICATION 3.1, 3.4), each with its limit
-- (SPECIFICATION 4.3).
use Rattle.std.specs.Prelude.{List, ℕ, zero, suc, Result, Ok, nat_le, if◌then◌else◌}
use Rattle.reader_tokens.specs.Kinds as kinds
use Rattle.reader_parts.specs.declared.Fault.{Fault}
use Rattle.reader_parts.specs.Stages.{◌>>=◌, ahead}
use Rattle.reader_parts.specs.Names.{declare}
use Rattle.reader_parts.specs.Slots.{first_channel, first_clock, first_location}
use Rattle.reader_constraints.specs.Constraints.{invariant}
use Rattle.reader_edges.specs.Edges.{edge_next}
use Rattle.reader_lists.specs.State.{State}
use Rattle.reader_lists.specs.State.{state_of, next_token, with_channel, with_clock, with_location, with_edge}
use Rattle.limits.specs.Limits.{channel_limit, clock_limit, location_limit, edge_limit}

-- one item more, of each kind: one over the limit is code 7 (SPECIFICATION 4.5), which `declare` and `edge_next` judge

-- a channel: its name is declared (SPECIFICATION 4.1)
unfoldable pub channel_item : List ℕ → State → Result State Fault
channel_item s r = do
  d ← declare s r.place r.names first_channel r.text.channel_count channel_limit
  Ok (state_of d.names (with_channel r.text d.name) d.end)

-- a clock: its name is declared (SPECIFICATION 4.1)
unfoldable pub clock_item : List ℕ → State → Result State Fault
clock_item s r = do
  d ← declare s r.place r.names first_clock r.text.clock_count clock_limit
  Ok (state_of d.names (with_clock r.text d.name) d.end)

-- the kinds of item that a list of the text has
pub data Item : Type 0 where
  Channel : Item
  Clock : Item
  Location : Item
  Edge : Item

-- how many items of a kind a text has at most (SPECIFICATION 4.3)
abbrev pub limit : Item → ℕ
limit Channel = channel_limit
limit Clock = clock_limit
limit Location = location_limit
limit Edge = edge_limit

-- at one tick length, `period` (SPECIFICATION 4.7)
module _ (period : ℕ) where
  -- a location: its name is declared (SPECIFICATION 4.1), and its invariant may follow (SPECIFICATION 3.1)
  unfoldable pub location_item : List ℕ → State → Result State Fault
  location_item s r = do
    d ← declare s r.place r.names first_location r.text.location_count location_limit
    i ← invariant period s d.end d.names
    Ok (state_of d.names (with_location r.text d.name i.constraint) i.end)

  -- an edge (SPECIFICATION 3.1)
  unfoldable pub edge_item : List ℕ → State → Result State Fault
  edge_item s r = do
    e ← edge_next period s r.place r.names r.text.channels (nat_le edge_limit r.text.edge_count)
    Ok (state_of r.names (with_edge r.text e.edge e.channel e.input) e.end)

  abbrev pub one_item : Item → List ℕ → State → Result State Fault
  one_item Channel = channel_item
  one_item Clock = clock_item
  one_item Location = location_item
  one_item Edge = edge_item

  -- a list where there is room for so many more items, and `;`: where there is none the next item is refused. There is
  -- one item at least, and one after each comma (SPECIFICATION 3.4)
  unfoldable pub items_from : ℕ → Item → List ℕ → State → Result State Fault
  items_from zero k s r = one_item k s r
  items_from (suc room) k s r = do
    q ← one_item k s r
    let more = next_token s kinds.comma q >>= items_from room k s
    let last = next_token s kinds.semicolon q
    if ahead s q.place kinds.comma then more else last

  unfoldable pub items : Item → List ℕ → State → Result State Fault
  items k s r = items_from (limit k) k s r
