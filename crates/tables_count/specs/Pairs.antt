-- The number of pairs set in a raster, padding not counted.
use Rattle.std.specs.Prelude.{◌≡◌, Bool, List, ℕ, zero, suc, ◌+◌, ◌-◌, ◌*◌, ◌/◌, ◌%◌, ◌^◌, ◌≤◌, ◌<◌, T, eqb}
use Rattle.bitmaps.specs.Bits.{num, bit_at}
use Rattle.bitmaps.specs.Packed.{bytes_for}

-- how many of the numbers below n pass
unfoldable pub passing : (ℕ → Bool) → ℕ → ℕ
passing p zero = 0
passing p (suc n) = passing p n + num (p n)

-- how many pairs of s below n and t below w pass
unfoldable pub pairs_set : (ℕ → ℕ → Bool) → ℕ → ℕ → ℕ
pairs_set f w zero = 0
pairs_set f w (suc n) = pairs_set f w n + passing (f n) w

-- the first m bits of a byte
unfoldable pub high_ones : ℕ → ℕ → ℕ
high_ones b zero = 0
high_ones b (suc m) = high_ones b m + num (eqb (b / 2 ^ (7 - m) % 2) 1)

-- the first w bits set in `row` are set in `old` too, and the padding of both is the same
pub record Fewer (w : ℕ) (old row : List ℕ) : Type 0 where
  pub among : (i : ℕ) → i < w → T (bit_at row i) → T (bit_at old i)
  pub spare : (i : ℕ) → w ≤ i → i / 8 < bytes_for w → bit_at row i ≡ bit_at old i

-- the bits set in the first b bytes of `row` are set in `old` too
abbrev pub Among : ℕ → List ℕ → List ℕ → Type 0
Among b old row = (i : ℕ) → i / 8 < b → T (bit_at row i) → T (bit_at old i)

-- r of the bits set in the bytes of `old` from a on and before e are not set in `row`, whose bits are among them
pub record Lost (old row : List ℕ) (a e r : ℕ) : Type 0 where
  pub count : r + passing (bit_at row) (8 * e) + passing (bit_at old) (8 * a)
      ≡ passing (bit_at old) (8 * e) + passing (bit_at row) (8 * a)

-- so many bytes are counted side by side
abbrev pub block : ℕ
block = 16
