-- The bit of a pair among all bits of a raster.
use mathlib.Core.Path.{◌≡◌}
use mathlib.Core.List.{List}
use Prim.Native.Nat.{ℕ, ◌+◌, ◌-◌, ◌*◌, ◌/◌, ◌%◌, ◌^◌, ◌<◌}
use native.Mathlib.Omega.{arith}
use lib.ListN.{get_or, set}
use Rattle.bitmaps.specs.Bits.{bit_at}
use Rattle.bitmaps.specs.Packed.{bytes_for}
use Rattle.tables_rows.specs.Raster.{raster, row, set_at, without}
use Rattle.tables_rows.specs.RasterLaws.{part_at}

-- the pair (s, t) among all bits, bit i: it is in byte t / 8 of row s
module _ (w : ℕ) (k : List ℕ) (s t i : ℕ) (place : i ≡ 8 * (s * bytes_for w) + t) where
  in_byte : i / 8 ≡ s * bytes_for w + t / 8
  in_byte = omega arith

  at_bit : i % 8 ≡ t % 8
  at_bit = omega arith

  pub place_bit : t < w → bit_at k i ≡ set_at w k s t
  unfolding bit_at
  place_bit h = let inside : t / 8 < bytes_for w = omega arith in
      rw (in_byte, at_bit, part_at (bytes_for w) k s (t / 8) inside)

  pub place_without : set k (i / 8) (get_or k (i / 8) 0 - 2 ^ (7 - i % 8)) ≡ without w k s t
  unfolding without
  place_without = rw (in_byte, at_bit)
