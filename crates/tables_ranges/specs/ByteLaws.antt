-- The bits of bytes under `&` and `|`.
use Rattle.std.specs.Prelude.{◌≡◌, refl, ◌⊎◌, Bool, true, false, ◌&&◌, ◌||◌, ℕ, zero, suc, ◌-◌, ◌/◌, ◌%◌, ◌^◌, ◌<◌}
use Rattle.std.proofs.Math.Path.{ap}
use Rattle.std.proofs.Common.{◌∙◌, inl, inr, arith}
use Rattle.std.proofs.Math.Dec.{eqb}
use Rattle.std.specs.Int.Bits.{bit_and, bit_or}
use Rattle.std.proofs.lemmas.Nat.{and_shr, and_mod, or_shr, or_mod}
use Rattle.tables_ranges.specs.Cut.{bit_in}

-- one digit of a number is 0 or 1
pub two : (x : ℕ) → x < 2 → (x ≡ 0) ⊎ (x ≡ 1)
two zero h = inl refl
two (suc zero) h = inr refl
two (suc (suc x)) h = absurd (omega arith)

-- a bit of an operation that goes digit by digit
module _ (f : ℕ → ℕ → ℕ) (g : Bool → Bool → Bool) (shr : (a b n : ℕ) → f a b / 2 ^ n ≡ f (a / 2 ^ n) (b / 2 ^ n))
    (low : (a b n : ℕ) → f a b % 2 ^ n ≡ f (a % 2 ^ n) (b % 2 ^ n)) (g00 : eqb (f 0 0) 1 ≡ g false false)
    (g01 : eqb (f 0 1) 1 ≡ g false true) (g10 : eqb (f 1 0) 1 ≡ g true false) (g11 : eqb (f 1 1) 1 ≡ g true true) where
  digit : (x y : ℕ) → (x ≡ 0) ⊎ (x ≡ 1) → (y ≡ 0) ⊎ (y ≡ 1) → eqb (f x y) 1 ≡ g (eqb x 1) (eqb y 1)
  digit x y (inl p) (inl q) = rw (q, p) g00
  digit x y (inl p) (inr q) = rw (q, p) g01
  digit x y (inr p) (inl q) = rw (q, p) g10
  digit x y (inr p) (inr q) = rw (q, p) g11

  bit_by_bit : (a b m : ℕ) → bit_in (f a b) m ≡ g (bit_in a m) (bit_in b m)
  unfolding bit_in
  bit_by_bit a b m =
      ap (λ (x : ℕ). eqb (x % 2) 1) (shr a b (7 - m))
      ∙ ap (λ (x : ℕ). eqb x 1) (low (a / 2 ^ (7 - m)) (b / 2 ^ (7 - m)) 1)
      ∙ digit (a / 2 ^ (7 - m) % 2) (b / 2 ^ (7 - m) % 2) (two _ (omega arith)) (two _ (omega arith))

-- a bit of `&`
pub and_bit : (a b m : ℕ) → bit_in (bit_and a b) m ≡ (bit_in a m && bit_in b m)
and_bit = bit_by_bit bit_and (λ (x y : Bool). x && y) and_shr and_mod refl refl refl refl

-- a bit of `|`
pub or_bit : (a b m : ℕ) → bit_in (bit_or a b) m ≡ (bit_in a m || bit_in b m)
or_bit = bit_by_bit bit_or (λ (x y : Bool). x || y) or_shr or_mod refl refl refl refl
