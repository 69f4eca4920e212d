-- Bytes of a text, and runs of them: white space, names and numerals (SPECIFICATION 2.1, 2.2), values of numerals
-- (SPECIFICATION 4.2), names that are spelled the same (SPECIFICATION 4.1, 9.1).
use Rattle.std.specs.Prelude.{Bool, true, false, cond, ◌||◌, ◌&&◌, List, [], ◌∷◌, ℕ, zero, suc, ◌+◌, ◌*◌, ◌-◌, eqb, leb, drop}
use Prim.Native.Char.{Char, code}
use Prim.Native.String.{String}
use Rattle.limits.specs.Limits.{largest_numeral}

-- the bytes of a quoted text
abbrev pub bytes : String → List ℕ
bytes String.[] = []
bytes (String.◌∷◌ c s) = code c ∷ bytes s

-- b is one of the bytes
abbrev pub member : ℕ → List ℕ → Bool
member b [] = false
member b (k ∷ ks) = eqb b k || member b ks

-- white bytes (SPECIFICATION 2.1)
unfoldable pub is_space : ℕ → Bool
is_space b = member b (bytes " \t\r\n")

abbrev pub from_to : Char → Char → ℕ → Bool
from_to a z b = leb (code a) b && leb b (code z)

-- what a name begins with (SPECIFICATION 2.2)
unfoldable pub is_letter : ℕ → Bool
is_letter b = eqb b (code "_") || (from_to "A" "Z" b || from_to "a" "z" b)

-- what a numeral is made of (SPECIFICATION 2.2)
unfoldable pub is_digit : ℕ → Bool
is_digit b = from_to "0" "9" b

-- what a name goes on with (SPECIFICATION 2.2)
unfoldable pub is_part : ℕ → Bool
is_part b = is_letter b || is_digit b

-- how many items at the front pass the test
unfoldable pub run : {A : Type 0} → (A → Bool) → List A → ℕ
run p [] = 0
run p (b ∷ s) = let n = run p s in cond (p b) (suc n) 0

-- the first place at or after `at` whose item fails the test
unfoldable pub past : {A : Type 0} → (A → Bool) → List A → ℕ → ℕ
past p s at = at + run p (drop at s)

-- the number a with the digit b after it
abbrev pub with_digit : ℕ → ℕ → ℕ
with_digit a b = a * 10 + (b - code "0")

-- the number that the digits at the front are, read on from a: of any size (SPECIFICATION 4.2)
unfoldable pub numeral_value : ℕ → List ℕ → ℕ
numeral_value a [] = a
numeral_value a (b ∷ s) = let v = numeral_value (with_digit a b) s in cond (is_digit b) v a

-- what stands for every number above the largest numeral that may come to an allowed constant
abbrev pub over_numeral : ℕ
over_numeral = suc largest_numeral

-- n where it is no larger than that numeral: what the code keeps of a numeral's value
unfoldable pub clamped : ℕ → ℕ
clamped n = cond (leb n largest_numeral) n over_numeral

-- the first n bytes are there in both, and equal
unfoldable pub agree : ℕ → List ℕ → List ℕ → Bool
agree zero x y = true
agree (suc n) [] y = false
agree (suc n) (a ∷ x) [] = false
agree (suc n) (a ∷ x) (b ∷ y) = let r = agree n x y in cond (eqb a b) r false

-- the m bytes at the front of x are the n bytes at the front of y: names spelled the same (SPECIFICATION 4.1, 9.1)
unfoldable pub same : ℕ → List ℕ → ℕ → List ℕ → Bool
same m x n y = let r = agree m x y in cond (eqb m n) r false
