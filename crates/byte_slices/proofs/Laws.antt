-- A number's last digit.
use mathlib.Core.Path.{◌≡◌, sym}
use mathlib.Core.List.{[], ◌∷◌, ◌++◌}
use Prim.Native.Nat.{ℕ, ◌+◌, ◌/◌, ◌%◌, ◌<◌, ◌≤◌}
use native.Mathlib.Omega.{arith}
use Rattle.byte_slices.specs.Decimal.{digit, decimal}
use Rattle.byte_slices.specs.DecimalLaws.{decimal_one, decimal_more}

-- the last digit of a number
abbrev pub last : ℕ → ℕ
last n = 48 + n % 10

pub one_digit : (n : ℕ) → n < 10 → last n ∷ [] ≡ decimal n
unfolding digit
one_digit n h = let e : n % 10 ≡ n = omega arith in rw e (sym (decimal_one n h))

pub more_digits : (n : ℕ) → 10 ≤ n → decimal (n / 10) ++ (last n ∷ []) ≡ decimal n
unfolding digit
more_digits n h = sym (decimal_more n h)
