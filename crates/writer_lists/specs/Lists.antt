-- What the functions that write a record ask for, and what is left of a list. Definitions only; laws in ListLaws.antt.
use Rattle.std.specs.Prelude.{List, [], ◌∷◌, ℕ, ◌≤◌, ◌<◌, get_or}
use Rattle.limits.specs.Limits.{channel_limit, clock_limit, location_limit, edge_limit, comparison_limit}
use Rattle.reader_tokens.specs.Scan.{bytes}
use Rattle.reader_record.specs.declared.Text.{Text}
use Rattle.reader_record.specs.Record.{edge, invariant_of, channel}
use Rattle.written.specs.Spaced.{Tokens}
use Rattle.written.specs.Written.{clock_called, edge_tokens}
use Rattle.written_names.specs.Inside.{NamesInside}
use Rattle.writer_parts.specs.Parts.{items_left}

-- locations and invariants within the limits (SPECIFICATION 4.3)
pub record LocationsWithin (t : Text) : Type 0 where
  pub few : t.location_count ≤ location_limit
  pub invariants : (l : ℕ) → l < t.location_count → (invariant_of t l).count ≤ comparison_limit

-- a record within the limits, whose edges have declared channels and whose channels have names
-- within the text s
pub record TextWithin (s : List ℕ) (t : Text) : Type 0 where
  pub few_channels : t.channel_count ≤ channel_limit
  pub few_clocks : t.clock_count ≤ clock_limit
  pub locations : LocationsWithin t
  pub few_edges : t.edge_count ≤ edge_limit
  pub guards : (i : ℕ) → i < t.edge_count → (edge t i).guard.count ≤ comparison_limit
  pub labels : (i : ℕ) → i < t.edge_count → (0 < channel (edge t i).label)
      × (channel (edge t i).label ≤ t.channel_count)
  pub inside : NamesInside s t.channels t.channel_count

-- what is left of a list from item i of n on, where an item was put before
abbrev pub list_left : (ℕ → Tokens) → ℕ → ℕ → Tokens
list_left item n i = items_left (bytes ",") (bytes ";") item n i

-- the items of the lists
abbrev pub channel_item : List (List ℕ) → ℕ → Tokens
channel_item names i = get_or names i [] ∷ []

abbrev pub clock_item : ℕ → ℕ → Tokens
clock_item u i = clock_called u i ∷ []

abbrev pub edge_item : List (List ℕ) → ℕ → Text → ℕ → Tokens
edge_item names u t i = edge_tokens names u t.clock_count (edge t i)
