-- What reading promises of the names of an accepted text: each lies within the text (SPECIFICATION 5.2), and all of
-- them differ as spelled (SPECIFICATION 4.1).
use Rattle.std.specs.Prelude.{◌≡◌, false, List, ℕ, ◌+◌, ◌≤◌, ◌<◌, length, get_or, drop}
use Rattle.reader_tokens.specs.Scan.{same}
use Rattle.reader_record.specs.declared.Name.{Name}
use Rattle.reader_record.specs.declared.Text.{Text}
use Rattle.reader_record.specs.Record.{no_name, no_channel, no_location}
use Rattle.limits.specs.Limits.{largest_name}

-- the names of channel c, clock c and location l, each from 0
abbrev pub channel_name : Text → ℕ → Name
channel_name t c = (get_or t.channels c no_channel).name

abbrev pub clock_name : Text → ℕ → Name
clock_name t c = get_or t.clocks c no_name

abbrev pub location_name : Text → ℕ → Name
location_name t l = (get_or t.locations l no_location).name

-- a name has a byte or more (SPECIFICATION 2.2), no more than its limit (SPECIFICATION 4.3), and ends within the text
pub record Within (s : List ℕ) (n : Name) : Type 0 where
  pub some : 0 < n.len
  pub few : n.len ≤ largest_name
  pub inside : n.place + n.len ≤ length s

pub record NamesWithin (s : List ℕ) (t : Text) : Type 0 where
  pub channel : (c : ℕ) → c < t.channel_count → Within s (channel_name t c)
  pub clock : (c : ℕ) → c < t.clock_count → Within s (clock_name t c)
  pub location : (l : ℕ) → l < t.location_count → Within s (location_name t l)

-- two names of the text are spelled otherwise
abbrev pub Unlike : List ℕ → Name → Name → Type 0
Unlike s m n = same m.len (drop m.place s) n.len (drop n.place s) ≡ false

-- all names differ, those of one kind and those of two (SPECIFICATION 4.1)
pub record NamesDiffer (s : List ℕ) (t : Text) : Type 0 where
  pub channels :
      (c d : ℕ) → c < t.channel_count → d < t.channel_count → (c ≡ d → ⊥)
      → Unlike s (channel_name t c) (channel_name t d)
  pub clocks :
      (c d : ℕ) → c < t.clock_count → d < t.clock_count → (c ≡ d → ⊥)
      → Unlike s (clock_name t c) (clock_name t d)
  pub locations :
      (l m : ℕ) → l < t.location_count → m < t.location_count → (l ≡ m → ⊥)
      → Unlike s (location_name t l) (location_name t m)
  pub channel_clock :
      (c d : ℕ) → c < t.channel_count → d < t.clock_count → Unlike s (channel_name t c) (clock_name t d)
  pub channel_location :
      (c l : ℕ) → c < t.channel_count → l < t.location_count → Unlike s (channel_name t c) (location_name t l)
  pub clock_location :
      (c l : ℕ) → c < t.clock_count → l < t.location_count → Unlike s (clock_name t c) (location_name t l)
