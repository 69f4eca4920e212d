-- Numbers in decimal, digit by digit: one digit, and one digit more at the end.
use Rattle.std.specs.Prelude.{◌≡◌, List, [], ◌∷◌, ◌++◌, ℕ, zero, suc, ◌+◌, ◌/◌, ◌%◌, ◌^◌, ◌<◌, ◌≤◌, length}
use Rattle.std.proofs.Common.{sym, ap, ◌∙◌, ⊎_elim, arith, lt-ltb, le-ltb, length-append}
use Rattle.bitmaps.specs.BitLaws.{less}
use Rattle.byte_slices.specs.Decimal.{digit, digits, decimal}

pub digits_one : (k n : ℕ) → n < 10 → digits (suc k) n ≡ digit n ∷ []
unfolding digits
digits_one k n h = rw (lt-ltb n 10 h, digits)

pub digits_more : (k n : ℕ) → 10 ≤ n → digits (suc k) n ≡ digits k (n / 10) ++ (digit (n % 10) ∷ [])
unfolding digits
digits_more k n h = rw (le-ltb n 10 h, digits)

-- any number of places that is enough gives the same digits
digits_same : (k j n : ℕ) → n < k → n < j → digits k n ≡ digits j n
digits_same zero j n h l = absurd (omega arith)
digits_same (suc k) zero n h l = absurd (omega arith)
digits_same (suc k) (suc j) n h l =
    ⊎_elim (λ a. digits_one k n a ∙ sym (digits_one j n a))
    (λ a. digits_more k n a ∙ ap (λ (x : List ℕ). x ++ (digit (n % 10) ∷ []))
    (digits_same k j (n / 10) (omega arith) (omega arith)) ∙ sym (digits_more j n a))
    (less n 10)

pub decimal_one : (n : ℕ) → n < 10 → decimal n ≡ digit n ∷ []
unfolding decimal
decimal_one n h = digits_one n n h

pub decimal_more : (n : ℕ) → 10 ≤ n → decimal n ≡ decimal (n / 10) ++ (digit (n % 10) ∷ [])
unfolding decimal
decimal_more n h =
    digits_more n n h ∙ ap (λ (x : List ℕ). x ++ (digit (n % 10) ∷ []))
    (digits_same n (suc (n / 10)) (n / 10) (omega arith) (omega arith))

pub decimal_length : (n : ℕ) → 10 ≤ n → length (decimal n) ≡ length (decimal (n / 10)) + 1
decimal_length n h = ap length (decimal_more n h) ∙ length-append (decimal (n / 10)) (digit (n % 10) ∷ [])

pub length_one : (n : ℕ) → n < 10 → length (decimal n) ≡ 1
length_one n h = ap length (decimal_one n h)

-- a number below 10 ^ k has at most k digits
pub decimal_within : (k n : ℕ) → n < 10 ^ suc k → length (decimal n) ≤ suc k
decimal_within zero n h = omega (arith, length_one n h)
decimal_within (suc k) n h =
    ⊎_elim (λ a. omega (arith, length_one n a))
    (λ a. omega (arith, decimal_length n a, decimal_within k (n / 10) (omega arith)))
    (less n 10)
