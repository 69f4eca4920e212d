-- The names of a text's channels, as bytes: the joined text has the left text's (SPECIFICATION 18.6).
use Rattle.std.specs.Prelude.{List, ℕ}
use Rattle.bitmaps.specs.Bits.{tab_from}
use Rattle.reader_record.specs.declared.Text.{Text}
use Rattle.reader_formed.specs.Promise.{channel_name}
use Rattle.pairing.specs.Channels.{spelling}

-- the names of all channels of the record t, which was read from s
unfoldable pub channel_spellings : List ℕ → Text → List (List ℕ)
channel_spellings s t = tab_from (λ c. spelling s (channel_name t c)) 0 t.channel_count
