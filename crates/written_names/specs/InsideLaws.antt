-- The names of a record's channels are those that its text is written with.
use Rattle.std.specs.Prelude.{◌≡◌, refl, List, ℕ, zero, suc, ◌+◌, ◌<◌}
use Rattle.std.proofs.Common.{ap, arith}
use Rattle.bitmaps.specs.Bits.{tab_from}
use Rattle.reader_record.specs.declared.Channel.{Channel}
use Rattle.reader_record.specs.declared.Text.{Text}
use Rattle.reader_formed.specs.Promise.{NamesWithin}
use Rattle.pairing.specs.Channels.{spelling}
use Rattle.written_names.specs.Spelled.{channel_spellings}
use Rattle.written_names.specs.Inside.{name_at, names_in, NamesInside}

-- the channels of a record have the names that its text is written with
pub spellings_of : (s : List ℕ) (t : Text) → names_in s t.channels t.channel_count ≡ channel_spellings s t
unfolding names_in channel_spellings
spellings_of s t = refl

tab_same :
    {A : Type 0} (f g : ℕ → A) (k n : ℕ) → ((c : ℕ) → c < k + n → f c ≡ g c) → tab_from f k n ≡ tab_from g k n
unfolding tab_from
tab_same f g k zero h = refl
tab_same f g k (suc n) h = rw (h k (omega arith), tab_same f g (suc k) n (λ c l. h c (omega arith)))

-- channels with equal names are spelled alike, whatever their directions
pub names_same :
    (s : List ℕ) (xs ys : List Channel) (n : ℕ) → ((c : ℕ) → c < n → name_at xs c ≡ name_at ys c)
    → names_in s xs n ≡ names_in s ys n
unfolding names_in
names_same s xs ys n h =
    tab_same (λ c. spelling s (name_at xs c)) (λ c. spelling s (name_at ys c)) 0 n
    (λ c l. ap (spelling s) (h c (omega arith)))

-- the names of a text that was read end within it
pub names_inside : (s : List ℕ) (t : Text) → NamesWithin s t → NamesInside s t.channels t.channel_count
names_inside s t within c h = (within.channel c h).inside
