-- The names of channels by what the functions are given, a text's bytes and the array of its channels; bytes compared
-- from the last one on, for inner contracts. Definitions only; laws in NameLaws.antt.
use Rattle.std.specs.Prelude.{Bool, false, cond, List, ℕ, ◌+◌, ◌-◌, eqb, length, get_or, take, drop}
use Rattle.reader_tokens.specs.Scan.{same}
use Rattle.reader_record.specs.declared.Channel.{Channel}
use Rattle.written.specs.Underscores.{is_channel_name}
use Rattle.written_names.specs.Inside.{names_in}
use Rattle.writer_tokens.specs.Tokens.{called_by}

-- name i with that letter, behind u underscores, is the name of one of the first n channels
abbrev pub is_taken : List ℕ → List Channel → ℕ → ℕ → ℕ → ℕ → Bool
is_taken s channels n letter u i = is_channel_name (names_in s channels n) n (called_by letter u i)

-- len bytes of s from `place` on
abbrev pub part : List ℕ → ℕ → ℕ → List ℕ
part s place len = take len (drop place s)

-- the bytes are those of w
unfoldable pub is_word : List ℕ → List ℕ → Bool
is_word x w = same (length x) x (length w) w

-- b is the last of len bytes from `place` on
unfoldable pub is_last : List ℕ → ℕ → ℕ → ℕ → Bool
is_last s place len b = cond (eqb len 0) false (eqb (get_or s (place + (len - 1)) 0) b)
