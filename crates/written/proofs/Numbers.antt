-- Numbers in decimal: they are numerals, and their value is the number (SPECIFICATION 4.2).
use Rattle.std.specs.Prelude.{◌≡◌, refl, Bool, true, false, List, [], ◌∷◌, ◌++◌, ℕ, zero, suc, ◌+◌, ◌*◌, ◌/◌, ◌%◌, ◌≤◌, ◌<◌, eqb, ltb, leb, length}
use Rattle.std.proofs.Common.{sym, ap, ◌∙◌}
use native.Mathlib.Omega.{arith}
use borrow.Author.Tests.{ltb-true, ltb-false, le-leb, leb-true, lt-leb, ne_eqb}
use Rattle.byte_slices.specs.Decimal.{digit, decimal}
use Rattle.byte_slices.specs.DecimalLaws.{decimal_one, decimal_more, decimal_length, length_one}
use Rattle.reader_tokens.specs.Kinds as kinds
use Rattle.reader_tokens.specs.Scan.{is_space, is_letter, is_digit, run, numeral_value, with_digit}
use Rattle.reader_formed.proofs.Cases.{and_left, and_right}
use Rattle.written.proofs.Tokens.{Fine}
use Rattle.written.proofs.Scanned.{numeral_fine}

-- a digit's byte
module _ (d : ℕ) (h : d < 10) where
  digit_is : is_digit (digit d) ≡ true
  unfolding is_digit digit
  digit_is = rw (le-leb 48 (48 + d) (omega arith), le-leb (48 + d) 57 (omega arith))

  digit_with : (a : ℕ) → with_digit a (digit d) ≡ a * 10 + d
  unfolding digit
  digit_with a = omega arith

-- bytes that are all digits
abbrev Digits : List ℕ → Type 0
Digits w = run is_digit w ≡ length w

digits_single : (d : ℕ) → d < 10 → Digits (digit d ∷ [])
unfolding run
digits_single d h = rw (digit_is d h)

-- the first of them
pub digits_first : (a : ℕ) (w : List ℕ) → Digits (a ∷ w) → (is_digit a ≡ true) × Digits w
unfolding run
digits_first a w h = by (is_digit a) refl
  where
    by : (t : Bool) → is_digit a ≡ t → (is_digit a ≡ true) × Digits w
    by true e = let k : suc (run is_digit w) ≡ suc (length w) = rw e at h in (e, omega arith)
    by false e = let k : ◌≡◌ {A = ℕ} 0 (suc (length w)) = rw e at h in absurd (omega arith)

digits_append : (x y : List ℕ) → Digits x → Digits y → Digits (x ++ y)
unfolding run
digits_append [] y h k = k
digits_append (a ∷ x) y h k =
    let m : (is_digit a ≡ true) × Digits x = digits_first a x h in
    rw (m.0, digits_append x y m.1 k)

value_append : (a : ℕ) (w r : List ℕ) → Digits w → numeral_value a (w ++ r) ≡ numeral_value (numeral_value a w) r
unfolding numeral_value
value_append a [] r h = refl
value_append a (b ∷ w) r h =
    let m : (is_digit b ≡ true) × Digits w = digits_first b w h in
    rw (m.0, value_append (with_digit a b) w r m.1)

-- what holds of one digit, and of one more behind a number, holds of every number in decimal
by_digits :
    (P : ℕ → List ℕ → Type 0) → ((n : ℕ) → n < 10 → P n (digit n ∷ []))
    → ((n : ℕ) → 10 ≤ n → P (n / 10) (decimal (n / 10)) → P n (decimal (n / 10) ++ (digit (n % 10) ∷ [])))
    → (k n : ℕ) → n < k → P n (decimal n)
by_digits P one more zero n h = absurd (omega arith)
by_digits P one more (suc k) n h = by (ltb n 10) refl (λ l. by_digits P one more k (n / 10) l)
  where
    by : (t : Bool) → ltb n 10 ≡ t → (n / 10 < k → P (n / 10) (decimal (n / 10))) → P n (decimal n)
    by true e again = rw (decimal_one n (ltb-true n 10 e)) (one n (ltb-true n 10 e))
    by false e again =
        let m : 10 ≤ n = ltb-false n 10 e in
        rw (decimal_more n m) (more n m (again (omega arith)))

all_digits : (n : ℕ) → Digits (decimal n)
all_digits n = by_digits (λ (m : ℕ) (w : List ℕ). Digits w) digits_single
    (λ m h d. digits_append (decimal (m / 10)) (digit (m % 10) ∷ []) d (digits_single (m % 10) (omega arith)))
    (suc n) n (omega arith)

value_is : (n : ℕ) → numeral_value 0 (decimal n) ≡ n
unfolding numeral_value
value_is n = by_digits (λ (m : ℕ) (w : List ℕ). numeral_value 0 w ≡ m)
    (λ m h. rw (digit_is m h) (digit_with m h 0 ∙ omega arith))
    (λ m h v.
    let q : m % 10 < 10 = omega arith in
    rw (value_append 0 (decimal (m / 10)) (digit (m % 10) ∷ []) (all_digits (m / 10)), v, digit_is (m % 10) q)
    (digit_with (m % 10) q (m / 10) ∙ omega arith))
    (suc n) n (omega arith)

pub decimal_some : (n : ℕ) → 0 < length (decimal n)
decimal_some n = by (ltb n 10) refl
  where
    by : (t : Bool) → ltb n 10 ≡ t → 0 < length (decimal n)
    by true e = omega (arith, length_one n (ltb-true n 10 e))
    by false e = omega (arith, decimal_length n (ltb-false n 10 e))

-- a number in decimal: its first byte and the others, all digits
pub record DecimalBytes (w : List ℕ) : Type 0 where
  pub head : ℕ
  pub tail : List ℕ
  pub is : w ≡ head ∷ tail
  pub digit : is_digit head ≡ true
  pub all : Digits w

pub decimal_is : (n : ℕ) → DecimalBytes (decimal n)
decimal_is n = by (decimal n) refl
  where
    by : (w : List ℕ) → decimal n ≡ w → DecimalBytes (decimal n)
    by [] e = absurd (omega (arith, decimal_some n, ap length e))
    by (a ∷ w) e = record {
      head = a;
      tail = w;
      is = e;
      digit = (digits_first a w (rw e at (all_digits n))).0;
      all = all_digits n;
    }

-- a digit is no letter and no space
pub digit_letter : (b : ℕ) → is_digit b ≡ true → (is_letter b ≡ false) × (is_space b ≡ false)
unfolding is_digit is_letter is_space
digit_letter b e =
    let l : 48 ≤ b = leb-true 48 b (and_left (leb 48 b) (leb b 57) e) in
    let h : b ≤ 57 = leb-true b 57 (and_right (leb 48 b) (leb b 57) e) in
    let no : (n : ℕ) → (b ≡ n → ⊥) → eqb b n ≡ false = λ n z. ne_eqb b n z in (
      rw (no 95 (omega arith), lt-leb 65 b (omega arith), lt-leb 97 b (omega arith)),
      rw (no 32 (omega arith), no 9 (omega arith), no 13 (omega arith), no 10 (omega arith)),
    )

pub decimal_fine : (n : ℕ) → Fine (decimal n) kinds.numeral
decimal_fine n =
    let d : DecimalBytes (decimal n) = decimal_is n in
    let c : (is_letter d.head ≡ false) × (is_space d.head ≡ false) = digit_letter d.head d.digit in
    rw d.is (numeral_fine d.head d.tail c.0 d.digit (rw d.is at d.all) c.1)

-- the value counts, up to a byte that is no digit (SPECIFICATION 4.2)
pub decimal_value : (n b : ℕ) (r : List ℕ) → is_digit b ≡ false → numeral_value 0 (decimal n ++ (b ∷ r)) ≡ n
unfolding numeral_value
decimal_value n b r e = rw (value_append 0 (decimal n) (b ∷ r) (all_digits n), value_is n, e)

-- no two numbers have the same digits
pub decimal_differs : (m n : ℕ) → decimal m ≡ decimal n → m ≡ n
decimal_differs m n e = sym (value_is m) ∙ ap (numeral_value 0) e ∙ value_is n
