-- A bitmap filled from the first entry on.
use Rattle.std.specs.Prelude.{Bool, ◌&&◌, List, ℕ, ◌+◌, ◌-◌, ◌*◌, ◌/◌, ◌%◌, ◌^◌, ltb, get_or, set}
use Rattle.bitmaps.specs.Bits.{num}

-- the bytes s with bit i set if b says so, it being 0 before
unfoldable pub put_bit : List ℕ → ℕ → Bool → List ℕ
put_bit s i b = set s (i / 8) (get_or s (i / 8) 0 + num b * 2 ^ (7 - i % 8))

-- the test p at the first n numbers, false past them
unfoldable pub upto : (ℕ → Bool) → ℕ → ℕ → Bool
upto p n i = ltb i n && p i
