-- What the code finds, for the caller.
use Rattle.std.specs.Prelude.{◌≡◌, refl, List, ℕ}
use Rattle.reader_record.specs.declared.Text.{Text}
use Rattle.written.specs.Underscores.{underscores, underscores_of}
use Rattle.written_names.specs.Spelled.{channel_spellings}
use Rattle.written_names.specs.Inside.{names_in}

-- what the code finds is the number of underscores of the record's text
pub underscores_here :
    (s : List ℕ) (t : Text)
    → underscores (names_in s t.channels t.channel_count) t.channel_count t.clock_count
    t.location_count
    ≡ underscores_of (channel_spellings s t) t
unfolding underscores_of names_in channel_spellings
underscores_here s t = refl
