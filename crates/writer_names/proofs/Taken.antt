-- A name is a channel's where it is one of the channels' in the array.
use mathlib.Core.Path.{◌≡◌, ap, ◌∙◌}
use mathlib.Core.Bool.{Bool}
use mathlib.Core.List.{List, []}
use Prim.Native.Nat.{ℕ, ◌<◌}
use native.Mathlib.Nat.{zero-add}
use lib.ListN.{length, get_or}
use Rattle.systems.specs.Tests.{any}
use Rattle.systems.specs.Bools.{any_same}
use Rattle.bitmaps.specs.BitLaws.{tab_at}
use Rattle.reader_tokens.specs.Scan.{same}
use Rattle.reader_record.specs.declared.Channel.{Channel}
use Rattle.pairing.specs.Channels.{spelling}
use Rattle.written.specs.Underscores.{is_channel_name}
use Rattle.written_names.specs.Inside.{name_at, names_in}
use Rattle.writer_names.specs.Names.{is_word}

-- channel k has the bytes w for its name
abbrev pub is_named : List ℕ → List Channel → List ℕ → ℕ → Bool
is_named s channels w k = is_word (spelling s (name_at channels k)) w

module _ (s : List ℕ) (channels : List Channel) (count : ℕ) where
  spelled_at : (k : ℕ) → k < count → get_or (names_in s channels count) k [] ≡ spelling s (name_at channels k)
  unfolding names_in
  spelled_at k h =
      tab_at (λ c. spelling s (name_at channels c)) [] 0 count k h
      ∙ ap (λ (c : ℕ). spelling s (name_at channels c)) (zero-add k)

  pub taken_any :
      (w : List ℕ) → is_channel_name (names_in s channels count) count w ≡ any count (is_named s channels w)
  unfolding is_channel_name is_word
  taken_any w =
      any_same count (λ k. test (get_or (names_in s channels count) k [])) (λ k. test (spelling s (name_at channels k)))
      (λ k h. ap test (spelled_at k h))
    where
      test : List ℕ → Bool
      test x = same (length x) x (length w) w
