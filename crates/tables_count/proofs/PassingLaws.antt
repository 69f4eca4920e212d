-- Laws of counting: numbers that pass a test, and pairs row by row.
use Rattle.std.specs.Prelude.{◌≡◌, refl, Bool, true, false, ℕ, zero, suc, ◌+◌, ◌*◌, ◌≤◌, ◌<◌, T}
use Rattle.std.proofs.Common.{⊎_elim, add-one, add-mul, arith}
use Rattle.bitmaps.specs.Bits.{num}
use Rattle.bitmaps.specs.BitLaws.{num_le, less}
use Rattle.tables_count.specs.Pairs.{passing, pairs_set}

pub passing_same : (p q : ℕ → Bool) (n : ℕ) → ((i : ℕ) → i < n → p i ≡ q i) → passing p n ≡ passing q n
unfolding passing
passing_same p q zero e = refl
passing_same p q (suc n) e = let f = passing_same p q n (λ i h. e i (omega arith)) in rw (f, e n (omega arith))

-- the first number, and the first m of them, counted apart
pub passing_front : (p : ℕ → Bool) (n : ℕ) → passing p (suc n) ≡ num (p 0) + passing (λ i. p (suc i)) n
unfolding passing
passing_front p zero = omega arith
passing_front p (suc n) = let e = passing_front p n in omega arith

pub passing_split : (p : ℕ → Bool) (m n : ℕ) → passing p (m + n) ≡ passing p m + passing (λ i. p (m + i)) n
unfolding passing
passing_split p m zero = let e : m + 0 ≡ m = omega arith in rw e (omega arith)
passing_split p m (suc n) = let e : m + suc n ≡ suc (m + n) = omega arith in rw e (omega (arith, passing_split p m n))

pub passing_le : (p : ℕ → Bool) (n : ℕ) → passing p n ≤ n
unfolding passing
passing_le p zero = omega arith
passing_le p (suc n) = omega (arith, passing_le p n, num_le (p n))

pub pairs_le : (f : ℕ → ℕ → Bool) (w n : ℕ) → pairs_set f w n ≤ n * w
unfolding pairs_set
pairs_le f w zero = omega arith
pairs_le f w (suc n) = omega (arith, pairs_le f w n, passing_le (f n) w, add-mul n 1 w)

pub pairs_more : (f : ℕ → ℕ → Bool) (w n : ℕ) → pairs_set f w (n + 1) ≡ pairs_set f w n + passing (f n) w
unfolding pairs_set
pairs_more f w n = rw (add-one n)

pub passing_none : (p : ℕ → Bool) (n : ℕ) → ((i : ℕ) → i < n → p i ≡ false) → passing p n ≡ 0
unfolding passing
passing_none p zero e = refl
passing_none p (suc n) e = let f = passing_none p n (λ i h. e i (omega arith)) in rw (f, e n (omega arith))

pub pairs_same : (f g : ℕ → ℕ → Bool) (w n : ℕ) → ((s t : ℕ) → s < n → t < w → f s t ≡ g s t)
    → pairs_set f w n ≡ pairs_set g w n
unfolding pairs_set
pairs_same f g w zero e = refl
pairs_same f g w (suc n) e = omega (
  arith,
  pairs_same f g w n (λ s t h. e s t (omega arith)),
  passing_same (f n) (g n) w (λ t. e n t (omega arith)),
)

-- a test that passes only where another does
num_few : (a b : Bool) → (T a → T b) → num a ≤ num b
num_few true true f = omega arith
num_few true false f = absurd (f tt)
num_few false b f = omega arith

pub passing_few : (p q : ℕ → Bool) (n : ℕ) → ((i : ℕ) → i < n → T (p i) → T (q i)) → passing p n ≤ passing q n
unfolding passing
passing_few p q zero f = omega arith
passing_few p q (suc n) f =
    omega (arith, passing_few p q n (λ i h. f i (omega arith)), num_few (p n) (q n) (f n (omega arith)))

-- and that passes as often, passes wherever the other does
pub passing_all : (p q : ℕ → Bool) (n : ℕ) → ((i : ℕ) → i < n → T (p i) → T (q i)) → passing p n ≡ passing q n
    → (i : ℕ) → i < n → T (q i) → T (p i)
unfolding passing
passing_all p q zero f e i h x = absurd (omega arith)
passing_all p q (suc n) f e i h x =
    let few = passing_few p q n (λ j l. f j (omega arith)) in
    let last = num_few (p n) (q n) (f n (omega arith)) in
    ⊎_elim (λ l. passing_all p q n (λ j k. f j (omega arith)) (omega arith) i l x)
    (λ l. let s : i ≡ n = omega arith in rw s (here (p n) (q n) (omega arith) (rw s at x))) (less i n)
  where
    here : (a b : Bool) → num a ≡ num b → T b → T a
    here true b e x = tt
    here false true e x = absurd (omega arith)
    here false false e x = x
