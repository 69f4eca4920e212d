-- The masks of the steps: where a step leads from the right states whose invariant is true into them.
use Rattle.std.specs.Prelude.{◌≡◌, Bool, ◌&&◌, List, ℕ, ◌<◌}
use Rattle.systems.specs.Tests.{stays}
use Rattle.bitmaps.specs.Bits.{bit_at}
use Rattle.bitmaps.specs.Packed.{bytes_for}
use Rattle.move_tables.specs.Moves.{decode}
use Rattle.tables_rows.specs.Raster.{part, set_at}
use Rattle.tables_runs.specs.Runs.{goes, landing}

-- the states of `holds` that step c leads into `holds`
abbrev pub Mask : List ℕ → List ℕ → ℕ → ℕ → ℕ → List ℕ → Type 0
Mask rm holds w steps c row = (t : ℕ) → t < w → bit_at row t ≡ (bit_at holds t && landing holds rm steps c t)

-- a row each for the first m steps
abbrev pub Masks : List ℕ → List ℕ → ℕ → ℕ → ℕ → List ℕ → Type 0
Masks rm holds w steps m masks = (c : ℕ) → c < m → Mask rm holds w steps c (part (bytes_for w) c masks)

-- step c lets the pair (s, t) pass: the left has no move by it, or its mask has the state t
unfoldable pub passes : List ℕ → List ℕ → ℕ → ℕ → ℕ → ℕ → ℕ → Bool
passes lm masks w steps s c t = stays (λ x. set_at w masks c t) (decode (goes lm steps c s))
