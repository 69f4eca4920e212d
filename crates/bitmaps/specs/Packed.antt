-- A bitmap that holds a table of n entries in its first bytes, spare bits 0, as keep does (SPECIFICATION 8.4).
use Rattle.std.specs.Prelude.{◌≡◌, Bool, List, ℕ, ◌+◌, ◌/◌, ◌≤◌, length}
use Rattle.systems.specs.Tests.{at, ones}
use Rattle.bitmaps.specs.Bits.{byte_of, written}

-- the bytes that n bits take (SPECIFICATION 8.4)
abbrev pub bytes_for : ℕ → ℕ
bytes_for n = (n + 7) / 8

-- the bytes d with the first of them those of the table X (SPECIFICATION 8.4)
unfoldable pub packed : ℕ → List Bool → List ℕ → List ℕ
packed n X d = written (byte_of (at X)) (bytes_for n) d

-- the bytes s hold the table X of n entries, over d
pub record Packed (n : ℕ) (X : List Bool) (d s : List ℕ) : Type 0 where
  pub long : length X ≡ n
  pub room : bytes_for n ≤ length d
  pub is : s ≡ packed n X d

-- what counting the first n bits of s gives
abbrev pub Count : ℕ → List ℕ → ℕ → Type 0
Count n s r = (X : List Bool) (d : List ℕ) → Packed n X d s → r ≡ ones X

-- a bitmap of n bits, of which `count` are set
pub record Counted (n : ℕ) (k : List ℕ) (count : ℕ) : Type 0 where
  pub entries : List Bool
  pub is : Packed n entries k k
  pub count_is : ones entries ≡ count

-- a bitmap of n bits
pub record Bitmap (n : ℕ) (k : List ℕ) : Type 0 where
  pub entries : List Bool
  pub is : Packed n entries k k
