-- What the clamped value of a numeral says of the value.
use Rattle.std.specs.Prelude.{◌≡◌, refl, Bool, true, false, ℕ, ◌≤◌, ◌<◌, leb}
use Rattle.std.proofs.Common.{sym, ◌∙◌, arith, le-leb, leb-true, leb-false}
use Rattle.std.proofs.lemmas.Bool.{lt-leb}
use Rattle.reader_tokens.specs.Scan.{over_numeral, clamped}
use Rattle.limits.specs.Limits.{largest_numeral}

pub clamped_low : (n : ℕ) → n ≤ largest_numeral → clamped n ≡ n
unfolding clamped
clamped_low n h = rw (le-leb n largest_numeral h)

pub clamped_high : (n : ℕ) → largest_numeral < n → clamped n ≡ over_numeral
unfolding clamped
clamped_high n h = rw (lt-leb n largest_numeral h)

-- what holds of a low number, and of the one that stands for the high ones
pub by_clamp :
    (P : ℕ → Type 0) (n : ℕ) → (n ≤ largest_numeral → P n) → (largest_numeral < n → P over_numeral) → P (clamped n)
by_clamp P n f g = by (leb n largest_numeral) refl
  where
    by : (t : Bool) → leb n largest_numeral ≡ t → P (clamped n)
    by true e = rw (clamped_low n (leb-true n largest_numeral e)) (f (leb-true n largest_numeral e))
    by false e = rw (clamped_high n (leb-false n largest_numeral e)) (g (leb-false n largest_numeral e))

pub clamped_bound : (n : ℕ) → clamped n ≤ over_numeral
clamped_bound n = by_clamp (λ (m : ℕ). m ≤ over_numeral) n (λ l. omega arith) (λ l. omega arith)

-- a clamped value that is no larger than the largest numeral is the value
pub unclamped : (n : ℕ) → clamped n ≤ largest_numeral → clamped n ≡ n
unclamped n = by_clamp (λ (m : ℕ). m ≤ largest_numeral → m ≡ n) n (λ _ _. refl) (λ _ h. absurd (omega arith))

pub clamped_zero : (n : ℕ) → clamped n ≡ 0 → n ≡ 0
clamped_zero n e = sym (unclamped n (omega arith)) ∙ e

pub zero_clamped : (n : ℕ) → n ≡ 0 → clamped n ≡ 0
zero_clamped n e = clamped_low n (omega arith) ∙ e
