-- Which records and names of channels give a text that is read back.
use Rattle.std.specs.Prelude.{◌≡◌, true, List, [], ℕ, ◌≤◌, ◌<◌, T, length, get_or}
use Prim.Native.Char.{Char}
use Rattle.reader_tokens.specs.Kinds as kinds
use Rattle.reader_tokens.specs.Scan.{is_letter, is_part, run}
use Rattle.reader_tokens.specs.Tokens.{word_kind}
use Rattle.limits.specs.Limits.{largest_name, channel_limit, clock_limit, location_limit, edge_limit, largest_constant}
use Rattle.reader_record.specs.Record.{no_assignment, comparison, edge, invariant_of, channel}
use Rattle.reader_record.specs.Formed.{in_invariant, FormedConstraint}
use Rattle.reader_record.specs.declared.Assignment.{Assignment}
use Rattle.reader_record.specs.declared.Text.{Text}
use Rattle.written.specs.Written.{called}
use Rattle.written.proofs.Same.{is_input_label}

-- a name: a letter or underscore, then letters, digits and underscores, no word, and no more bytes than the limit
-- (SPECIFICATION 2.2, 2.3, 4.3)
pub record IsName (w : List ℕ) : Type 0 where
  pub letter : is_letter (get_or w 0 0) ≡ true
  pub parts : run is_part w ≡ length w
  pub no_word : word_kind (length w) w ≡ kinds.name
  pub few : length w ≤ largest_name

-- the names that are written for the process, the clocks and the locations, by their letter and number
pub data WrittenName (clocks locations : ℕ) : Char → ℕ → Type 0 where
  process : WrittenName clocks locations "p" 0
  clock : {i : ℕ} → i < clocks → WrittenName clocks locations "c" i
  location : {i : ℕ} → i < locations → WrittenName clocks locations "l" i

-- they are names and differ (SPECIFICATION 4.1)
pub record ChannelNames (names : List (List ℕ)) (channels : ℕ) : Type 0 where
  pub name : (i : ℕ) → i < channels → IsName (get_or names i [])
  pub differ : (i j : ℕ) → i < channels → j < channels → get_or names i [] ≡ get_or names j [] → i ≡ j

-- besides, no name that is written is a channel's (SPECIFICATION 18.6)
pub record GoodNames (names : List (List ℕ)) (u channels clocks locations : ℕ) : Type 0 where
  pub own : ChannelNames names channels
  pub apart : (i j : ℕ) (letter : Char) → i < channels → WrittenName clocks locations letter j
      → get_or names i [] ≡ called letter u j → ⊥

-- the values assigned to the first so many clocks are allowed constants (SPECIFICATION 4.3)
abbrev pub AllowedValues : ℕ → List Assignment → Type 0
AllowedValues clocks all = (k : ℕ) → k < clocks → (get_or all k no_assignment).value ≤ largest_constant

-- a record that is read back from its text: what a text can say of a well-formed record (SPECIFICATION 3, 4.3). The
-- directions of its channels and what stands past its counts are not written, so nothing is asked of them
pub record Readable (t : Text) : Type 0 where
  pub channels : t.channel_count ≤ channel_limit
  pub clocks : t.clock_count ≤ clock_limit
  pub locations : t.location_count ≤ location_limit
  pub edges : t.edge_count ≤ edge_limit
  pub init : t.init < t.location_count
  pub invariant : (l : ℕ) → l < t.location_count → FormedConstraint t.clock_count (invariant_of t l)
  pub upper : (l i : ℕ) → l < t.location_count → i < (invariant_of t l).count
      → T (in_invariant (comparison (invariant_of t l) i).sign (comparison (invariant_of t l) i).bound)
  pub guard : (i : ℕ) → i < t.edge_count → FormedConstraint t.clock_count (edge t i).guard
  pub source : (i : ℕ) → i < t.edge_count → (edge t i).source < t.location_count
  pub target : (i : ℕ) → i < t.edge_count → (edge t i).target < t.location_count
  pub label : (i : ℕ) → i < t.edge_count → (0 < channel (edge t i).label)
      × (channel (edge t i).label ≤ t.channel_count)
  pub assigned : (i : ℕ) → i < t.edge_count → AllowedValues t.clock_count (edge t i).assignments
  -- a channel has one mark (SPECIFICATION 3.6)
  pub one_mark : (i j : ℕ) → i < t.edge_count → j < t.edge_count
      → channel (edge t i).label ≡ channel (edge t j).label
      → is_input_label (edge t i).label ≡ is_input_label (edge t j).label
