-- Bits of rows and masks under `|`.
use mathlib.Core.Path.{◌≡◌, refl, sym, ap, ◌∙◌}
use mathlib.Core.Logic.{◌⊎◌, inl, inr}
use mathlib.Core.Bool.{Bool, true, false, ◌||◌}
use mathlib.Core.List.{List}
use Prim.Native.Nat.{ℕ, zero, suc, ◌+◌, ◌-◌, ◌*◌, ◌/◌, ◌%◌, ◌^◌, ◌<◌}
use native.Mathlib.Decide.{ℕ_discrete}
use native.Mathlib.Omega.{arith}
use lib.Dec.{eqb}
use lib.Bits.{bit_or}
use borrow.Author.Tests.{eq-eqb, ne_eqb}
use lib.ListN.{length, get_or, set, replicate}
use lib.Seq.{get_or-set_same, get_or-set_other}
use Rattle.bitmaps.specs.Bits.{bit_at}
use Rattle.bitmaps.specs.BitLaws.{eight}
use Rattle.tables_ranges.specs.Cut.{bit_in}
use Rattle.tables_ranges.specs.ByteLaws.{or_bit}

pub zero_at : (n j : ℕ) → get_or {A = ℕ} (replicate n 0) j 0 ≡ 0
zero_at zero j = refl
zero_at (suc n) zero = refl
zero_at (suc n) (suc j) = zero_at n j

-- a bit of a byte that is the same
pub same_bit : (k k' : List ℕ) (x : ℕ) → get_or k' (x / 8) 0 ≡ get_or k (x / 8) 0 → bit_at k' x ≡ bit_at k x
unfolding bit_at
same_bit k k' x e = rw e

-- a bit of a mask
pub mask_bit : (k k' : List ℕ) (at x : ℕ) → get_or k' (x / 8) 0 ≡ get_or k (at + x / 8) 0 → bit_at k' x ≡ bit_at k
    (8 * at + x)
unfolding bit_at
mask_bit k k' at x e = let p : (8 * at + x) / 8 ≡ at + x / 8 = omega arith in
    let q : (8 * at + x) % 8 ≡ x % 8 = omega arith in
    rw (p, q, e)

pub or_either : (b : Bool) (x t : ℕ) → (b || eqb x t) ≡ true → (b ≡ true) ⊎ (x ≡ t)
or_either true x t e = inl refl
or_either false x t e = elim (ℕ_discrete x t) [
  | yes q ↦ inr q
  | no q ↦ let f = ne_eqb x t q in let z : false ≡ true = sym f ∙ e in inl z
]

pub or_true : (b c : Bool) → c ≡ true → (b || c) ≡ true
or_true true c e = refl
or_true false c e = e

pub or_left : (b c : Bool) → b ≡ true → (b || c) ≡ true
or_left b c e = rw e

-- the digits of a power of 2
one_digit : (n : ℕ) → n < 8 → (m : ℕ) → m < 8 → eqb (2 ^ n / 2 ^ m % 2) 1 ≡ eqb m n
one_digit = eight (λ n. (m : ℕ) → m < 8 → eqb (2 ^ n / 2 ^ m % 2) 1 ≡ eqb m n)
    (eight (λ m. eqb (2 ^ 0 / 2 ^ m % 2) 1 ≡ eqb m 0) refl refl refl refl refl refl refl refl)
    (eight (λ m. eqb (2 ^ 1 / 2 ^ m % 2) 1 ≡ eqb m 1) refl refl refl refl refl refl refl refl)
    (eight (λ m. eqb (2 ^ 2 / 2 ^ m % 2) 1 ≡ eqb m 2) refl refl refl refl refl refl refl refl)
    (eight (λ m. eqb (2 ^ 3 / 2 ^ m % 2) 1 ≡ eqb m 3) refl refl refl refl refl refl refl refl)
    (eight (λ m. eqb (2 ^ 4 / 2 ^ m % 2) 1 ≡ eqb m 4) refl refl refl refl refl refl refl refl)
    (eight (λ m. eqb (2 ^ 5 / 2 ^ m % 2) 1 ≡ eqb m 5) refl refl refl refl refl refl refl refl)
    (eight (λ m. eqb (2 ^ 6 / 2 ^ m % 2) 1 ≡ eqb m 6) refl refl refl refl refl refl refl refl)
    (eight (λ m. eqb (2 ^ 7 / 2 ^ m % 2) 1 ≡ eqb m 7) refl refl refl refl refl refl refl refl)

pub or_false : (b : Bool) → (b || false) ≡ b
or_false true = refl
or_false false = refl

-- a bit put into a mask
pub put_bit : (k : List ℕ) (at t : ℕ) → at + t / 8 < length k → (x : ℕ)
    → bit_at (set k (at + t / 8) (bit_or (get_or k (at + t / 8) 0) (2 ^ (7 - t % 8)))) (8 * at + x)
    ≡ (bit_at k (8 * at + x) || eqb x t)
unfolding bit_at bit_in
put_bit k at t h x =
    let p : (8 * at + x) / 8 ≡ at + x / 8 = omega arith in
    let q : (8 * at + x) % 8 ≡ x % 8 = omega arith in
    rw (p, q) (elim (ℕ_discrete (x / 8) (t / 8)) [
      | yes e ↦ rw (e, get_or-set_same k (at + t / 8) (bit_or (get_or k (at + t / 8) 0) (2 ^ (7 - t % 8))) 0 h)
          (or_bit (get_or k (at + t / 8) 0) (2 ^ (7 - t % 8)) (x % 8)
          ∙ ap (λ (b : Bool). eqb (get_or k (at + t / 8) 0 / 2 ^ (7 - x % 8) % 2) 1 || b)
          (one_digit (7 - t % 8) (omega arith) (7 - x % 8) (omega arith) ∙ place e))
      | no e ↦ rw (
        get_or-set_other k (at + t / 8) (at + x / 8) (bit_or (get_or k (at + t / 8) 0) (2 ^ (7 - t % 8))) 0
            (λ z. e (omega arith)),
        ne_eqb x t (λ z. e (omega arith)),
      ) (sym (or_false _))
    ])
  where
    place : x / 8 ≡ t / 8 → eqb (7 - x % 8) (7 - t % 8) ≡ eqb x t
    place e = elim (ℕ_discrete x t) [
      | yes z ↦ eq-eqb (7 - x % 8) (7 - t % 8) (omega arith) ∙ sym (eq-eqb x t z)
      | no z ↦ ne_eqb (7 - x % 8) (7 - t % 8) (λ y. z (omega arith)) ∙ sym (ne_eqb x t z)
    ]

-- bytes joined by `|`
pub or_bits : (k k' s : List ℕ) (x : ℕ) → get_or k' (x / 8) 0 ≡ bit_or (get_or k (x / 8) 0) (get_or s (x / 8) 0)
    → bit_at k' x ≡ (bit_at k x || bit_at s x)
unfolding bit_at bit_in
or_bits k k' s x e = rw e (or_bit (get_or k (x / 8) 0) (get_or s (x / 8) 0) (x % 8))

pub false_true : {P : Type 0} → false ≡ true → P
false_true z = let y : ◌≡◌ {A = ℕ} 0 1 = cc in absurd (omega arith)
