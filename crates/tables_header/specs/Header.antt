-- A table as a file, a Netpbm raw PBM: the header and how long the table is (SPECIFICATION 11.1, 11.2).
use Rattle.std.specs.Prelude.{Bool, true, false, ◌&&◌, List, [], ◌∷◌, ◌++◌, ℕ, ◌+◌, ◌*◌, eqb, length}
use Rattle.limits.specs.Limits.{state_limit, keep_limit}
use Rattle.bitmaps.specs.Packed.{bytes_for}
use Rattle.byte_slices.specs.Decimal.{ascii, decimal}

-- `P4` and LF, the space between the numbers, and the LF at the end
abbrev pub magic_line : List ℕ
magic_line = ascii "P4\n"

abbrev pub space : List ℕ
space = ascii " "

abbrev pub line_end : List ℕ
line_end = ascii "\n"

abbrev pub magic_bytes : ℕ
magic_bytes = length magic_line

-- the header for w right states and h left states (SPECIFICATION 11.1)
unfoldable pub header : ℕ → ℕ → List ℕ
header w h = magic_line ++ (decimal w ++ (space ++ (decimal h ++ line_end)))

unfoldable pub header_bytes : ℕ → ℕ → ℕ
header_bytes w h = length (header w h)

-- h rows of ceil(w / 8) bytes (SPECIFICATION 11.2)
abbrev pub raster_bytes : ℕ → ℕ → ℕ
raster_bytes w h = h * bytes_for w

unfoldable pub table_bytes : ℕ → ℕ → ℕ
table_bytes w h = header_bytes w h + raster_bytes w h

-- the bytes of the largest table: both numbers have four digits, and behind each stands one byte
abbrev pub state_digits : ℕ
state_digits = 4

abbrev pub table_limit : ℕ
table_limit = magic_bytes + 2 * (state_digits + 1) + state_limit * keep_limit

-- the bytes t begin with the bytes p
unfoldable pub begins : List ℕ → List ℕ → Bool
begins [] t = true
begins (b ∷ p) [] = false
begins (b ∷ p) (c ∷ t) = eqb c b && begins p t

-- what 16 asks of a given table: its header is this very one, and its total length is right (SPECIFICATION 11.1, 13.1)
unfoldable pub fits : ℕ → ℕ → List ℕ → Bool
fits w h t = begins (header w h) t && eqb (length t) (table_bytes w h)
