-- What milliseconds come to in ticks (SPECIFICATION 4.7): the nearest whole number; themselves at tick length 1; and
-- too many, at every tick length, where the numeral is above the largest one.
use Rattle.std.specs.Prelude.{◌≡◌, refl, ℕ, ◌+◌, ◌*◌, ◌≤◌, ◌<◌}
use Rattle.std.proofs.Common.{div-mul-le_self, le-div_iff_mul-le, arith}
use Rattle.std.proofs.Math.Nat.{lt-div-mul-add}
use Rattle.reader_tokens.specs.Scan.{over_numeral, clamped}
use Rattle.reader_tokens.specs.Clamped.{by_clamp}
use Rattle.reader_constraints.specs.Constraints.{in_ticks}
use Rattle.limits.specs.Limits.{TickLength, largest_constant, largest_numeral}

-- c is at most half a tick below what it comes to, and less than half a tick above
pub ticks_below : (period c : ℕ) → 2 * (in_ticks period c * period) ≤ 2 * c + period
unfolding in_ticks
ticks_below period c = omega (arith, div-mul-le_self (2 * c + period) (2 * period))

pub ticks_above : (period c : ℕ) → 0 < period → 2 * c < 2 * (in_ticks period c * period) + period
unfolding in_ticks
ticks_above period c h = omega (arith, lt-div-mul-add {a = 2 * c + period} {b = 2 * period} (omega arith))

-- at one millisecond a tick, it is what it comes to
pub one_millisecond : (c : ℕ) → in_ticks 1 c ≡ c
one_millisecond c = omega (arith, ticks_below 1 c, ticks_above 1 c (omega arith))

-- a numeral above the largest one is too large at every tick length
pub too_large : (period c : ℕ) → TickLength period → largest_numeral < c → largest_constant < in_ticks period c
unfolding in_ticks
too_large period c t h =
    (le-div_iff_mul-le {k = 2 * period} {x = largest_constant + 1} {y = 2 * c + period} (omega arith)).1 (omega arith)

module _ (period : ℕ) (t : TickLength period) (n : ℕ) where
  -- a clamped numeral that comes to an allowed constant comes to what the numeral comes to
  pub unclamped_ticks : in_ticks period (clamped n) ≤ largest_constant → in_ticks period (clamped n) ≡ in_ticks period n
  unclamped_ticks =
      by_clamp (λ (m : ℕ). in_ticks period m ≤ largest_constant → in_ticks period m ≡ in_ticks period n) n
      (λ _ _. refl)
      (λ _ h. absurd (omega (arith, too_large period over_numeral t (omega arith))))

  -- one that is too large comes from one that is too large
  pub above_ticks : largest_constant < in_ticks period (clamped n) → largest_constant < in_ticks period n
  above_ticks =
      by_clamp (λ (m : ℕ). largest_constant < in_ticks period m → largest_constant < in_ticks period n) n
      (λ _ h. h)
      (λ l _. too_large period n t l)
