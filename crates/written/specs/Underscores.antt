-- How many underscores stand before the names that are made: the fewest with which none of the names written is a
-- channel's (SPECIFICATION 18.6). Only names that are written count.
use Rattle.std.specs.Prelude.{Bool, not, ◌||◌, List, [], ℕ, suc, length, get_or}
use Rattle.reader_tokens.specs.Scan.{same}
use Rattle.systems.specs.Tests.{any, least}
use Rattle.reader_record.specs.declared.Text.{Text}
use Rattle.written.specs.Written.{process_called, clock_called, location_called, written_with}

-- the bytes w are the name of one of the channels
unfoldable pub is_channel_name : List (List ℕ) → ℕ → List ℕ → Bool
is_channel_name names channels w = any channels (λ i. same (length (get_or names i [])) (get_or names i []) (length w) w)

-- with u underscores a name that is written is a channel's
unfoldable pub clashes : List (List ℕ) → ℕ → ℕ → ℕ → ℕ → Bool
clashes names channels clocks locations u =
    is_channel_name names channels (process_called u)
    || (any clocks (λ i. is_channel_name names channels (clock_called u i))
    || any locations (λ i. is_channel_name names channels (location_called u i)))

-- one number more than there are channels is tried: that many cannot all clash
unfoldable pub underscores : List (List ℕ) → ℕ → ℕ → ℕ → ℕ
underscores names channels clocks locations =
    least (λ u. not (clashes names channels clocks locations u)) 0 (suc channels)

unfoldable pub underscores_of : List (List ℕ) → Text → ℕ
underscores_of names t = underscores names t.channel_count t.clock_count t.location_count

-- the text that is written for a record whose channels have those names
unfoldable pub written_text : List (List ℕ) → Text → List ℕ
written_text names t = written_with names (underscores_of names t) t
