-- Bitmaps: bytes whose bits, the high one first, are the entries of a table of Booleans. Keep is one
-- (SPECIFICATION 8.4), and so is each row of a table file (SPECIFICATION 11.2).
use Rattle.std.specs.Prelude.{Bool, cond, List, [], ◌∷◌, ◌++◌, ℕ, zero, suc, ◌+◌, ◌-◌, ◌*◌, ◌/◌, ◌%◌, ◌^◌, eqb, get_or, drop}

-- a bit as a number
abbrev pub num : Bool → ℕ
num b = cond b 1 0

-- bit i of a list of bytes, from the high bit of the first one on (SPECIFICATION 8.4)
unfoldable pub bit_at : List ℕ → ℕ → Bool
bit_at s i = eqb (get_or s (i / 8) 0 / 2 ^ (7 - i % 8) % 2) 1

-- the byte of entries 8 k to 8 k + 7
unfoldable pub byte_of : (ℕ → Bool) → ℕ → ℕ
byte_of p k = num (p (8 * k + 0)) * 128 + num (p (8 * k + 1)) * 64 + num (p (8 * k + 2)) * 32 + num (p (8 * k + 3)) * 16
    + num (p (8 * k + 4)) * 8 + num (p (8 * k + 5)) * 4 + num (p (8 * k + 6)) * 2 + num (p (8 * k + 7))

-- f at k, k + 1, .., n of them
unfoldable pub tab_from : {X : Type 0} → (ℕ → X) → ℕ → ℕ → List X
tab_from f k zero = []
tab_from f k (suc n) = f k ∷ tab_from f (suc k) n

-- d with its first n entries those of f, and the later ones as they were (SPECIFICATION 12.7)
unfoldable pub written : (ℕ → ℕ) → ℕ → List ℕ → List ℕ
written f n d = tab_from f 0 n ++ drop n d
