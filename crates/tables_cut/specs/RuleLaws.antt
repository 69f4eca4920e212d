-- Laws of a row that was loaded.
use Rattle.std.specs.Prelude.{◌≡◌, List, ℕ, ◌/◌, ◌<◌, get_or}
use Rattle.std.proofs.Common.{ap, ◌∙◌}
use Rattle.bitmaps.specs.Bits.{bit_at}
use Rattle.bitmaps.specs.Packed.{bytes_for}
use Rattle.tables_rows.specs.Raster.{part, set_at}
use Rattle.tables_rows.specs.RasterLaws.{part_at}
use Rattle.tables_cut.specs.Rule.{Loaded}

-- its bits, the padding among them
pub loaded_bit : (w : ℕ) (k : List ℕ) (s : ℕ) (row : List ℕ) → Loaded w k s row → (t : ℕ) → t / 8 < bytes_for w
    → bit_at row t ≡ set_at w k s t
unfolding bit_at
loaded_bit w k s row L t h = rw (L (t / 8) h, part_at (bytes_for w) k s (t / 8) h)

-- the bytes of the part of the raster that is the row
pub loaded : (w : ℕ) (k : List ℕ) (s : ℕ) (row from : List ℕ) → from ≡ part (bytes_for w) s k
    → ((i : ℕ) → i < bytes_for w → get_or row i 0 ≡ get_or from i 0) → Loaded w k s row
loaded w k s row from e f i h = f i h ∙ ap (λ (x : List ℕ). get_or x i 0) e ∙ part_at (bytes_for w) k s i h
