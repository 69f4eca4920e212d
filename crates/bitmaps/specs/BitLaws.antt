-- Laws of lists filled from a function, and of the bytes and bits of a test.
use Rattle.std.specs.Prelude.{◌≡◌, refl, ◌⊎◌, ◌≢◌, Bool, true, false, List, ◌++◌, ℕ, zero, suc, ◌+◌, ◌-◌, ◌*◌, ◌/◌, ◌%◌, ◌^◌, ◌≤◌, ◌<◌, eqb, set, replicate, take, ◌∷◌}
use Rattle.std.proofs.Common.{sym, ◌∙◌, inl, inr, ⊎_elim, not-suc-le-zero, le_of_suc-le-suc, add-zero, zero-add, eq-eqb, ne_eqb, length-append, length-drop, length-set, length-take, get_or-take, get_or-set_same, get_or-set_other, ext_get_or}
use Rattle.std.proofs.Math.Path.{ap}
use Rattle.std.proofs.Math.Decide.{ℕ_discrete, dec_lt}
use native.Mathlib.Omega.{arith}
use Rattle.std.proofs.Math.ListN.{length, get_or, drop, get_or-append}
use Rattle.std.proofs.Math.Seq.{get_or-append-add, get_or-drop}
use Rattle.bitmaps.specs.Bits.{num, bit_at, byte_of, tab_from, written}

pub length_tab : {X : Type 0} (f : ℕ → X) (k n : ℕ) → length (tab_from f k n) ≡ n
unfolding tab_from
length_tab f k zero = refl
length_tab f k (suc n) = ap suc (length_tab f (suc k) n)

pub tab_at : {X : Type 0} (f : ℕ → X) (d : X) (k n i : ℕ) → i < n → get_or (tab_from f k n) i d ≡ f (k + i)
unfolding tab_from
tab_at f d k zero i h = absurd (not-suc-le-zero h)
tab_at f d k (suc n) zero h = rw add-zero
tab_at f d k (suc n) (suc i) h = let e : k + suc i ≡ suc k + i = omega arith in
    rw e (tab_at f d (suc k) n i (le_of_suc-le-suc h))

module _ (f : ℕ → ℕ) (n : ℕ) (d : List ℕ) where
  pub written_length : n ≤ length d → length (written f n d) ≡ length d
  unfolding written
  written_length h = simp (length-append, length_tab, length-drop) (omega arith)

  pub written_at : (i : ℕ) → i < n → get_or (written f n d) i 0 ≡ f i
  unfolding written
  written_at i h = get_or-append (tab_from f 0 n) (drop n d) 0 i (rw length_tab h) ∙ tab_at f 0 0 n i h
      ∙ ap f (zero-add i)

  pub written_past : (i : ℕ) → n ≤ i → get_or (written f n d) i 0 ≡ get_or d i 0
  unfolding written
  written_past i h =
      let e : i ≡ length (tab_from f 0 n) + (i - n) = omega (arith, length_tab f 0 n) in
      let g : n + (i - n) ≡ i = omega arith in
      ap (λ (x : ℕ). get_or (tab_from f 0 n ++ drop n d) x 0) e ∙ get_or-append-add (tab_from f 0 n) (drop n d) (i - n) 0
      ∙ get_or-drop n d (i - n) 0 ∙ ap (λ (x : ℕ). get_or d x 0) g

pub less : (m n : ℕ) → (m < n) ⊎ (n ≤ m)
less m n = elim (dec_lt m n) [ yes h ↦ inl h | no h ↦ inr (omega arith) ]

-- a list that has the entries of f below n, and those of d past it
pub written_is : (f : ℕ → ℕ) (n : ℕ) (s d : List ℕ) → n ≤ length d → length s ≡ length d
    → ((i : ℕ) → i < n → get_or s i 0 ≡ f i) → ((i : ℕ) → n ≤ i → get_or s i 0 ≡ get_or d i 0) → s ≡ written f n d
written_is f n s d l e inside past = ext_get_or 0 s (written f n d) (e ∙ sym (written_length f n d l))
    (λ i h. ⊎_elim (λ a. inside i a ∙ sym (written_at f n d i a)) (λ a. past i a ∙ sym (written_past f n d i a))
    (less i n))

pub written_same : (f g : ℕ → ℕ) (n : ℕ) (d : List ℕ) → n ≤ length d → ((i : ℕ) → i < n → f i ≡ g i) → written f n d
    ≡ written g n d
written_same f g n d l e = written_is g n (written f n d) d l (written_length f n d l)
    (λ i h. written_at f n d i h ∙ e i h) (written_past f n d)

pub eight : (P : ℕ → Type 0) → P 0 → P 1 → P 2 → P 3 → P 4 → P 5 → P 6 → P 7 → (j : ℕ) → j < 8 → P j
eight P a b c d e f g h zero l = a
eight P a b c d e f g h (suc zero) l = b
eight P a b c d e f g h (suc (suc zero)) l = c
eight P a b c d e f g h (suc (suc (suc zero))) l = d
eight P a b c d e f g h (suc (suc (suc (suc zero)))) l = e
eight P a b c d e f g h (suc (suc (suc (suc (suc zero))))) l = f
eight P a b c d e f g h (suc (suc (suc (suc (suc (suc zero)))))) l = g
eight P a b c d e f g h (suc (suc (suc (suc (suc (suc (suc zero))))))) l = h
eight P a b c d e f g h (suc (suc (suc (suc (suc (suc (suc (suc j)))))))) l = absurd (omega arith)

pub num_le : (b : Bool) → num b ≤ 1
num_le true = omega arith
num_le false = omega arith

num_test : (b : Bool) → eqb (num b) 1 ≡ b
num_test true = refl
num_test false = refl

-- the bits of such a byte
byte_bit : (p : ℕ → Bool) (k j : ℕ) → j < 8 → byte_of p k / 2 ^ (7 - j) % 2 ≡ num (p (8 * k + j))
unfolding byte_of
byte_bit p k =
    let h0 = num_le (p (8 * k + 0)) in let h1 = num_le (p (8 * k + 1)) in let h2 = num_le (p (8 * k + 2)) in let h3 =
    num_le (p (8 * k + 3)) in
    let h4 = num_le (p (8 * k + 4)) in let h5 = num_le (p (8 * k + 5)) in let h6 = num_le (p (8 * k + 6)) in let h7 =
    num_le (p (8 * k + 7)) in
    eight (λ j. byte_of p k / 2 ^ (7 - j) % 2 ≡ num (p (8 * k + j))) (omega arith) (omega arith) (omega arith)
    (omega arith) (omega arith) (omega arith) (omega arith) (omega arith)

place : (i : ℕ) → (8 * (i / 8) + i % 8 ≡ i) × (i % 8 < 8)
place i = (omega arith, omega arith)

pub byte_same : (p q : ℕ → Bool) (k : ℕ) → ((j : ℕ) → j < 8 → p (8 * k + j) ≡ q (8 * k + j)) → byte_of p k ≡ byte_of q k
unfolding byte_of
byte_same p q k e = rw (
  e 0 (omega arith),
  e 1 (omega arith),
  e 2 (omega arith),
  e 3 (omega arith),
  e 4 (omega arith),
  e
      5 (omega arith),
  e 6 (omega arith),
  e 7 (omega arith),
)

-- the byte whose bit j alone is set
abbrev one_bit : ℕ → ℕ
one_bit j =
    128 * num (eqb 0 j) + 64 * num (eqb 1 j) + 32 * num (eqb 2 j) + 16 * num (eqb 3 j)
    + 8 * num (eqb 4 j) + 4 * num (eqb 5 j) + 2 * num (eqb 6 j) + num (eqb 7 j)

one_bit_is : (j : ℕ) → j < 8 → one_bit j ≡ 2 ^ (7 - j)
one_bit_is = eight (λ j. one_bit j ≡ 2 ^ (7 - j)) refl refl refl refl refl refl refl refl

-- a byte with one bit taken away
byte_less : (p q : ℕ → Bool) (k j : ℕ) → j < 8
    → ((n : ℕ) → n < 8 → num (q (8 * k + n)) + num (eqb n j) ≡ num (p (8 * k + n)))
    → byte_of q k + 2 ^ (7 - j) ≡ byte_of p k
unfolding byte_of
byte_less p q k j h e =
    let high : (byte_of q k + one_bit j) ≡ byte_of p k = omega (
      arith,
      e 0 (omega arith),
      e 1 (omega arith),
      e 2 (omega arith),
      e 3 (omega arith),
      e 4 (omega arith),
      e 5 (omega arith),
      e 6 (omega arith),
      e 7 (omega arith),
    ) in
    omega (arith, high, one_bit_is j h)

-- a list whose byte i / 8 is that of a test has the test's bit i
pub bit_of : (p : ℕ → Bool) (s : List ℕ) (i : ℕ) → get_or s (i / 8) 0 ≡ byte_of p (i / 8) → bit_at s i ≡ p i
unfolding bit_at
bit_of p s i e = rw (e, byte_bit p (i / 8) (i % 8) (place i).1, num_test) (ap p (place i).0)

-- the tests p and q differ at i alone, where p passes
pub record Cleared (p q : ℕ → Bool) (i : ℕ) : Type 0 where
  pub was : p i ≡ true
  pub now_not : q i ≡ false
  pub other : (j : ℕ) → j ≢ i → q j ≡ p j

module _ (p q : ℕ → Bool) (i : ℕ) (C : Cleared p q i) where
  pub cleared_here : byte_of q (i / 8) + 2 ^ (7 - i % 8) ≡ byte_of p (i / 8)
  cleared_here = byte_less p q (i / 8) (i % 8) (place i).1
      (λ n l. elim (ℕ_discrete n (i % 8)) [ yes e ↦ same n e | no e ↦ differ n l e ])
    where
      same : (n : ℕ) → n ≡ i % 8 → num (q (8 * (i / 8) + n)) + num (eqb n (i % 8)) ≡ num (p (8 * (i / 8) + n))
      same n e = let f : 8 * (i / 8) + n ≡ i = omega (arith, (place i).0) in
          rw (f, C.was, C.now_not, eq-eqb n (i % 8) e)

      differ : (n : ℕ) → n < 8 → n ≢ i % 8 → num (q (8 * (i / 8) + n)) + num (eqb n (i % 8)) ≡ num (p (8 * (i / 8) + n))
      differ n l e = rw (C.other (8 * (i / 8) + n) (λ f. e (omega (arith, (place i).0))), ne_eqb n (i % 8) e)
          (omega arith)

  pub cleared_else : (k : ℕ) → k ≢ i / 8 → byte_of q k ≡ byte_of p k
  cleared_else k h = byte_same q p k (λ j l. C.other (8 * k + j) (λ e. h (omega arith)))

  -- clearing the bit in the bytes of p gives those of q
  pub clear_is : (n : ℕ) (d : List ℕ) → n ≤ length d → i / 8 < n
      → set (written (byte_of p) n d) (i / 8) (get_or (written (byte_of p) n d) (i / 8) 0 - 2 ^ (7 - i % 8))
      ≡ written (byte_of q) n d
  clear_is n d l h =
      written_is (byte_of q) n (set (written (byte_of p) n d) (i / 8)
      (get_or (written (byte_of p) n d) (i / 8) 0 - 2 ^ (7 - i % 8))) d l
      (rw length-set (written_length (byte_of p) n d l)) inside
      (λ k m. get_or-set_other (written (byte_of p) n d) (i / 8) k _ 0 (λ e. omega arith)
      ∙ written_past (byte_of p) n d k m)
    where
      here : get_or (written (byte_of p) n d) (i / 8) 0 - 2 ^ (7 - i % 8) ≡ byte_of q (i / 8)
      here = rw (written_at (byte_of p) n d (i / 8) h) (omega (arith, cleared_here))

      inside : (k : ℕ) → k < n → get_or (set (written (byte_of p) n d) (i / 8)
          (get_or (written (byte_of p) n d) (i / 8) 0 - 2 ^ (7 - i % 8))) k 0 ≡ byte_of q k
      inside k m = elim (ℕ_discrete k (i / 8)) [
        | yes e ↦ rw e
            (get_or-set_same (written (byte_of p) n d) (i / 8) _ 0 (rw (written_length (byte_of p) n d l) (omega arith))
            ∙ here)
        | no e ↦ get_or-set_other (written (byte_of p) n d) (i / 8) k _ 0 e ∙ written_at (byte_of p) n d k m
            ∙ sym (cleared_else k e)
      ]

pub clear_one : (k : ℕ) → k < 8 → (1 * 2 ^ k) % 2 ^ 8 ≡ 2 ^ k
clear_one = eight (λ k. (1 * 2 ^ k) % 2 ^ 8 ≡ 2 ^ k) refl refl refl refl refl refl refl refl

-- a byte with bit k is at least 2 ^ k
pub bit_ge : (b k : ℕ) → k < 8 → b / 2 ^ k % 2 ≡ 1 → 2 ^ k ≤ b
bit_ge b = eight (λ k. b / 2 ^ k % 2 ≡ 1 → 2 ^ k ≤ b) (λ e. omega arith) (λ e. omega arith) (λ e. omega arith)
    (λ e. omega arith) (λ e. omega arith) (λ e. omega arith) (λ e. omega arith) (λ e. omega arith)

-- one entry more
pub written_more : (f : ℕ → ℕ) (n : ℕ) (d : List ℕ) (v : ℕ) → n < length d → v ≡ f n → set (written f n d) n v
    ≡ written f (n + 1) d
written_more f n d v h e =
    written_is f (n + 1) (set (written f n d) n v) d (omega arith)
    (length-set (written f n d) n v ∙ written_length f n d (omega arith))
    (λ i l. elim (ℕ_discrete i n) [
      | yes q ↦ rw q (get_or-set_same (written f n d) n v 0
          (rw (written_length f n d (omega arith)) h) ∙ e)
      | no q ↦ get_or-set_other (written f n d) n i v 0 q
          ∙ written_at f n d i (below i l q)
    ])
    (λ i l. get_or-set_other (written f n d) n i v 0 (λ q. omega arith) ∙ written_past f n d i (omega arith))
  where
    below : (i : ℕ) → i < n + 1 → i ≢ n → i < n
    below i l q = ⊎_elim (λ a. a) (λ a. absurd (q (omega arith))) (less i n)

pub written_none : (f : ℕ → ℕ) (d : List ℕ) → written f 0 d ≡ d
unfolding written tab_from
written_none f d = refl

-- all the same, and the front of a list
tab_same : (b k n : ℕ) → replicate n b ≡ tab_from (λ i. b) k n
unfolding tab_from
tab_same b k zero = refl
tab_same b k (suc n) = ap (λ (l : List ℕ). b ∷ l) (tab_same b (suc k) n)

tab_front : (xs : List ℕ) (n : ℕ) → n ≤ length xs → take n xs ≡ tab_from (λ i. get_or xs i 0) 0 n
tab_front xs n h = ext_get_or 0 (take n xs) (tab_from (λ i. get_or xs i 0) 0 n)
    (length-take n xs ∙ omega (arith, length_tab (λ i. get_or xs i 0) 0 n))
    (λ i l.
    let h : i < n = omega (arith, length-take n xs) in
    get_or-take n xs i 0 h ∙ sym (tab_at (λ i. get_or xs i 0) 0 0 n i h ∙ ap (λ (k : ℕ). get_or xs k 0) (zero-add i)))

pub written_all : (b n : ℕ) (d : List ℕ) → replicate n b ++ drop n d ≡ written (λ i. b) n d
unfolding written
written_all b n d = ap (λ (l : List ℕ). l ++ drop n d) (tab_same b 0 n)

pub written_front : (xs d : List ℕ) (n : ℕ) → n ≤ length xs → take n xs ++ drop n d ≡ written (λ i. get_or xs i 0) n d
unfolding written
written_front xs d n h = ap (λ (l : List ℕ). l ++ drop n d) (tab_front xs n h)
