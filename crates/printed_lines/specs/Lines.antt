-- The lines that the programs print, as bytes (SPECIFICATION 14.2, 14.3, 14.5, 14.7).
use Rattle.std.specs.Prelude.{cond, List, [], ◌∷◌, ◌++◌, ℕ, ◌-◌, eqb, get_or, take}
use Rattle.refusals.specs.declared.Refusal.{Refusal}
use Rattle.refusals.specs.Refusals.{mark, code, file, p, q}
use Rattle.systems.specs.Definitions.{tick}
use Rattle.reader_record.specs.declared.Direction.{Direction}
use Rattle.reader_record.specs.declared.Direction.TheVariants.{Unused, Input, Output}
use Rattle.reader_record.specs.declared.Channel.{Channel}
use Rattle.reader_record.specs.Record.{no_channel}
use Rattle.pairing.specs.Channels.{spelling}
use Rattle.byte_slices.specs.Decimal.{ascii, decimal}
use Rattle.tables_header.specs.Header.{space, line_end}

-- numbers in decimal, each after one space
unfoldable pub spaced : List ℕ → List ℕ
spaced [] = []
spaced (n ∷ ns) = (space ++ decimal n) ++ spaced ns

-- a word, the numbers behind it, LF
unfoldable pub line : List ℕ → List ℕ → List ℕ
line word ns = (word ++ spaced ns) ++ line_end

-- `REFUSED code file p q`
unfoldable pub refusal_line : Refusal → List ℕ
refusal_line f = line (ascii "REFUSED") (code f ∷ mark (file f) ∷ p f ∷ q f ∷ [])

-- `YES count`, with the pairs of the widest table
unfoldable pub yes_line : ℕ → List ℕ
yes_line count = line (ascii "YES") (count ∷ [])

-- `YES` alone, for a text that is an implementation
unfoldable pub passed_line : List ℕ
passed_line = line (ascii "YES") []

-- `ACCEPTED count`, with the pairs of a table that is checked
unfoldable pub accepted_line : ℕ → List ℕ
accepted_line count = line (ascii "ACCEPTED") (count ∷ [])

-- the mark behind a channel's name: a channel that no edge uses counts as an output
unfoldable pub direction_mark : Direction → List ℕ
direction_mark Input = ascii "?"
direction_mark Output = ascii "!"
direction_mark Unused = ascii "!"

-- a channel as the text s spells it, with its mark
unfoldable pub channel_line : List ℕ → Channel → List ℕ
channel_line s k = (spelling s k.name ++ direction_mark k.direction) ++ line_end

-- a step: the tick, or the channel of that number, from 1, of the text s with these channels
unfoldable pub step_line : List ℕ → List Channel → ℕ → List ℕ
step_line s channels step =
    cond (eqb step tick) (ascii "tick\n") (channel_line s (get_or channels (step - 1) no_channel))

-- a step a line
unfoldable pub step_lines : List ℕ → List Channel → List ℕ → List ℕ
step_lines s channels [] = []
step_lines s channels (step ∷ run) = step_line s channels step ++ step_lines s channels run

-- `NO n`, then the first n steps of the run
unfoldable pub departure_lines : List ℕ → List Channel → ℕ → List ℕ → List ℕ
departure_lines s channels n run = line (ascii "NO") (n ∷ []) ++ step_lines s channels (take n run)
