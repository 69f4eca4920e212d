-- The names of channels by a text's bytes and the array of its channels, for inner contracts. Definitions only.
use Rattle.std.specs.Prelude.{List, ℕ, ◌+◌, ◌≤◌, ◌<◌, length, get_or}
use Rattle.bitmaps.specs.Bits.{tab_from}
use Rattle.reader_record.specs.declared.Name.{Name}
use Rattle.reader_record.specs.declared.Channel.{Channel}
use Rattle.reader_record.specs.Record.{no_channel}
use Rattle.pairing.specs.Channels.{spelling}

-- the name of channel i, from 0
abbrev pub name_at : List Channel → ℕ → Name
name_at channels i = (get_or channels i no_channel).name

-- the names of the first n channels, as the text s spells them
unfoldable pub names_in : List ℕ → List Channel → ℕ → List (List ℕ)
names_in s channels n = tab_from (λ i. spelling s (name_at channels i)) 0 n

-- they end within the text (SPECIFICATION 5.2)
abbrev pub NamesInside : List ℕ → List Channel → ℕ → Type 0
NamesInside s channels n = (i : ℕ) → i < n → (name_at channels i).place + (name_at channels i).len ≤ length s
