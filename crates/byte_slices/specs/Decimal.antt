-- A string's bytes, and numbers in decimal.
use Rattle.std.specs.Prelude.{true, false, List, [], ◌∷◌, ◌++◌, ℕ, zero, suc, ◌+◌, ◌/◌, ◌%◌, ltb, get_or}
use Prim.Native.Char.{code}
use Prim.Native.String.{String}

-- a string's bytes
abbrev pub ascii : String → List ℕ
ascii String.[] = []
ascii (String.◌∷◌ c s) = code c ∷ ascii s

-- the character of a digit below 10
unfoldable pub digit : ℕ → ℕ
digit d = get_or (ascii "0") 0 0 + d

-- the decimal digits of n, the first of them no zero unless n is 0; at most k of them
unfoldable pub digits : ℕ → ℕ → List ℕ
digits zero n = []
digits (suc k) n = elim (ltb n 10) [ true ↦ digit n ∷ [] | false ↦ digits k (n / 10) ++ (digit (n % 10) ∷ []) ]

-- a number in decimal, without leading zeros (SPECIFICATION 11.1): n + 1 digits are always enough
unfoldable pub decimal : ℕ → List ℕ
decimal n = digits (suc n) n
