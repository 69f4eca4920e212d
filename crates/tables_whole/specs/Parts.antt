-- The raster as the part of a table behind its header.
use Rattle.std.specs.Prelude.{◌≡◌, List, ℕ, ◌-◌, ◌*◌, ◌≤◌, length, take, drop}
use Rattle.std.proofs.Common.{arith, length-drop, take_all}
use Rattle.bitmaps.specs.Packed.{bytes_for}
use Rattle.tables_header.specs.Header.{header_bytes, table_bytes}

-- the part from byte a on is all that follows
pub rest_of : (a : ℕ) (t : List ℕ) → take (length t - a) (drop a t) ≡ drop a t
rest_of a t = take_all (length t - a) (drop a t) (omega (arith, length-drop a t))

-- a table that fits has room for the raster behind its header
pub raster_room : (w n a : ℕ) (t : List ℕ) → a ≡ header_bytes w n → table_bytes w n ≤ length t
    → n * bytes_for w ≤ length (take (length t - a) (drop a t))
unfolding table_bytes
raster_room w n a t e h = rw (rest_of a t, length-drop a t) (omega arith)
