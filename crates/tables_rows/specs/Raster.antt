-- A raster: the rows of a table of n times w entries, each in whole bytes, padding 0 (SPECIFICATION 11.2, 11.3).
use Rattle.std.specs.Prelude.{◌≡◌, Bool, ◌&&◌, List, ◌++◌, ℕ, ◌+◌, ◌-◌, ◌*◌, ◌/◌, ◌%◌, ◌^◌, ◌≤◌, ◌<◌, ltb, length, get_or, set, take, drop}
use Rattle.limits.specs.Limits.{state_limit, keep_limit}
use Rattle.systems.specs.Tests.{at, table}
use Rattle.bitmaps.specs.Bits.{bit_at, byte_of, tab_from}
use Rattle.bitmaps.specs.Packed.{Packed, bytes_for}

-- the bytes of the largest raster
abbrev pub raster_limit : ℕ
raster_limit = state_limit * keep_limit

-- row s of a raster whose rows take b bytes each (SPECIFICATION 11.2)
abbrev pub part : ℕ → ℕ → List ℕ → List ℕ
part b s k = take b (drop (s * b) k)

-- row s of a table of w columns
abbrev pub row : ℕ → List Bool → ℕ → List Bool
row w X s = take w (drop (s * w) X)

-- bit t of row s of a raster: the pair (s, t) is related (SPECIFICATION 11.2)
abbrev pub set_at : ℕ → List ℕ → ℕ → ℕ → Bool
set_at w k s t = bit_at (part (bytes_for w) s k) t

-- the raster without the pair (s, t), which is set: its bit taken away
unfoldable pub without : ℕ → List ℕ → ℕ → ℕ → List ℕ
without w k s t = let i = s * bytes_for w + t / 8 in set k i (get_or k i 0 - 2 ^ (7 - t % 8))

-- the table that a raster denotes, padding not read (SPECIFICATION 11.3)
unfoldable pub denoted : ℕ → ℕ → List ℕ → List Bool
denoted n w k = table (n * w) (λ p. set_at w k (p / w) (p % w))

-- entry t of row s, false past the row's end
unfoldable pub in_row : ℕ → List Bool → ℕ → ℕ → Bool
in_row w X s t = ltb t w && at X (s * w + t)

-- the raster of X: n rows of w bits in ceil(w / 8) bytes each, high bit first, padding 0 (SPECIFICATION 11.2, 11.3)
unfoldable pub raster : ℕ → ℕ → List Bool → List ℕ
raster n w X = tab_from (λ i. byte_of (in_row w X (i / bytes_for w)) (i % bytes_for w)) 0 (n * bytes_for w)

-- the bytes d with the first of them the raster of X
unfoldable pub raster_of : ℕ → ℕ → List Bool → List ℕ → List ℕ
raster_of n w X d = raster n w X ++ drop (n * bytes_for w) d

-- k is the raster of X in its first bytes, and as d behind them
pub record Raster (n w : ℕ) (X : List Bool) (d k : List ℕ) : Type 0 where
  pub long : length X ≡ n * w
  pub room : n * bytes_for w ≤ length d
  pub sized : length k ≡ length d
  pub rows : (s : ℕ) → s < n → Packed w (row w X s) (part (bytes_for w) s k) (part (bytes_for w) s k)
  pub past : (i : ℕ) → n * bytes_for w ≤ i → get_or k i 0 ≡ get_or d i 0

-- a raster of some table
pub record Table (n w : ℕ) (k : List ℕ) : Type 0 where
  pub entries : List Bool
  pub is : Raster n w entries k k
