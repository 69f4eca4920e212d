-- The bits of bytes that are shifted or masked, and rows that are cut byte by byte.
use mathlib.Core.Path.{◌≡◌, refl, sym, subst, ap, ◌∙◌}
use mathlib.Core.Logic.{◌⊎◌, inl, inr, ⊎_elim, ◌≢◌}
use mathlib.Core.Bool.{Bool, true, false, not, ◌&&◌, ◌||◌}
use mathlib.Core.List.{List, [], ◌∷◌}
use Prim.Native.Nat.{ℕ, ◌+◌, ◌-◌, ◌*◌, ◌/◌, ◌%◌, ◌^◌, ◌≤◌, ◌<◌}
use native.Mathlib.Nat.{le_refl, zero-div}
use native.Mathlib.Decide.{ℕ_discrete}
use native.Mathlib.Omega.{arith}
use lib.Dec.{eqb, leb}
use lib.Bits.{bit_and, bit_or, and_le_l}
use lib.Pow.{shr-shr}
use borrow.Author.Tests.{le-leb, lt-leb}
use lib.ListN.{length, get_or, set, take, drop, length-set}
use mathlib.Core.List.{◌++◌}
use Rattle.std.specs.Prelude.{replicate}
use Rattle.std.proofs.lemmas.List.{length-replicate, get_or-replicate}
use lib.Seq.{get_or-set_same, get_or-set_other}
use Rattle.bitmaps.specs.Bits.{bit_at}
use Rattle.bitmaps.specs.BitLaws.{eight, less}
use Rattle.tables_ranges.specs.Cut.{Cut, from_bit, bit_in, Eight, FullFrom}
use Rattle.tables_ranges.specs.ByteLaws.{two, and_bit, or_bit}
use Rattle.tables_ranges.proofs.Mid.{mid_length, mid_in, mid_before, mid_after}
use Rattle.tables_ranges.specs.CutLaws.{and_true, cut_none, cut_join, cut_same}

-- a bit of `>>`
shr_bit : (y n m : ℕ) → m < 8 → n ≤ m → bit_in (y / 2 ^ n) m ≡ bit_in y (m - n)
unfolding bit_in
shr_bit y n m h l = let e : n + (7 - m) ≡ 7 - (m - n) = omega arith in
    ap (λ (x : ℕ). eqb (x % 2) 1) (shr-shr y n (7 - m)) ∙ ap (λ (x : ℕ). eqb (y / 2 ^ x % 2) 1) e

-- a bit of what a byte leaves of the full one
not_bit : (y m : ℕ) → y < 256 → m < 8 → bit_in (255 - y) m ≡ not (bit_in y m)
unfolding bit_in
not_bit y m l h = go (y / 2 ^ (7 - m) % 2) ((255 - y) / 2 ^ (7 - m) % 2) (two _ (omega arith)) (sums (7 - m) (omega arith))
  where
    sums : (n : ℕ) → n < 8 → y / 2 ^ n % 2 + (255 - y) / 2 ^ n % 2 ≡ 1
    sums = eight (λ n. y / 2 ^ n % 2 + (255 - y) / 2 ^ n % 2 ≡ 1) (omega arith) (omega arith) (omega arith) (omega arith)
        (omega arith) (omega arith) (omega arith) (omega arith)

    go : (x z : ℕ) → (x ≡ 0) ⊎ (x ≡ 1) → x + z ≡ 1 → eqb z 1 ≡ not (eqb x 1)
    go x z (inl p) q = let e : z ≡ 1 = omega arith in rw (e, p)
    go x z (inr p) q = let e : z ≡ 0 = omega arith in rw (e, p)

-- a bit of 0
pub no_bit : (m : ℕ) → bit_in 0 m ≡ false
unfolding bit_in
no_bit m = rw zero-div

-- the bits of the byte that is full from bit n on
pub full_from : (n : ℕ) → n ≤ 8 → FullFrom n (255 / 2 ^ n)
unfolding bit_in
full_from n l m h =
    ap (λ (x : ℕ). eqb (x % 2) 1) (shr-shr 255 n (7 - m)) ∙ ⊎_elim
    (λ p. let e : n + (7 - m) ≡ 8 + (n - m - 1) = omega arith in
    ap (λ (x : ℕ). eqb (255 / 2 ^ x % 2) 1) e ∙ ap (λ (x : ℕ). eqb (x % 2) 1) (sym (shr-shr 255 8 (n - m - 1)))
    ∙ rw zero-div (sym (lt-leb n m p)))
    (λ p. set_bit (n + (7 - m)) (omega arith) ∙ sym (le-leb n m p)) (less m n)
  where
    set_bit : (x : ℕ) → x < 8 → eqb (255 / 2 ^ x % 2) 1 ≡ true
    set_bit = eight (λ x. eqb (255 / 2 ^ x % 2) 1 ≡ true) refl refl refl refl refl refl refl refl

and_false : (b : Bool) → (b && false) ≡ false
and_false true = refl
and_false false = refl

or_true : (b : Bool) → (b || true) ≡ true
or_true true = refl
or_true false = refl

or_false : (b : Bool) → (b || false) ≡ b
or_false true = refl
or_false false = refl

-- a byte y joined with the bits that are not from n to e; p has the bits from n on, q those from e on
module _ (y p q n e : ℕ) (small : p < 256) (P : FullFrom n p) (Q : FullFrom e q) where
  abbrev masked : ℕ
  masked = bit_or y (bit_or (255 - p) q)

  masked_bit : (m : ℕ) → m < 8 → bit_in masked m ≡ (bit_in y m || (not (leb n m) || leb e m))
  masked_bit m h = or_bit y (bit_or (255 - p) q) m
      ∙ ap (λ (x : Bool). bit_in y m || x) (or_bit (255 - p) q m
      ∙ ap (λ (x : Bool). x || bit_in q m) (not_bit p m small h ∙ ap not (P m h))
      ∙ ap (λ (x : Bool). not (leb n m) || x) (Q m h))

  masked_in : (m : ℕ) → m < 8 → n ≤ m → m < e → bit_in masked m ≡ bit_in y m
  masked_in m h l g = masked_bit m h ∙ ap (λ (x : Bool). bit_in y m || (not x || leb e m)) (le-leb n m l)
      ∙ ap (λ (x : Bool). bit_in y m || x) (lt-leb e m g) ∙ or_false (bit_in y m)

  masked_out : (m : ℕ) → m < 8 → (m < n) ⊎ (e ≤ m) → bit_in masked m ≡ true
  masked_out m h (inl l) = masked_bit m h ∙ ap (λ (x : Bool). bit_in y m || (not x || leb e m)) (lt-leb n m l)
      ∙ or_true (bit_in y m)
  masked_out m h (inr l) = masked_bit m h ∙ ap (λ (x : Bool). bit_in y m || (not (leb n m) || x)) (le-leb e m l)
      ∙ ap (λ (x : Bool). bit_in y m || x) (or_true (not (leb n m))) ∙ or_true (bit_in y m)

-- one byte of a row, cut by `&`
module _ (k : List ℕ) (j y : ℕ) (h : j < length k) where
  abbrev anded : List ℕ
  anded = set k j (bit_and (get_or k j 0) y)

  and_here : (i : ℕ) → i / 8 ≡ j → bit_at anded i ≡ (bit_at k i && bit_in y (i % 8))
  unfolding bit_at bit_in
  and_here i e = rw (e, get_or-set_same k j (bit_and (get_or k j 0) y) 0 h) (and_bit (get_or k j 0) y (i % 8))

  and_else : (i : ℕ) → i / 8 ≢ j → bit_at anded i ≡ bit_at k i
  unfolding bit_at
  and_else i e = rw (get_or-set_other k j (i / 8) (bit_and (get_or k j 0) y) 0 e)

  and_falls : (i : ℕ) → get_or anded i 0 ≤ get_or k i 0
  and_falls i = elim (ℕ_discrete i j) [
    | yes e ↦ rw (e, get_or-set_same k j (bit_and (get_or k j 0) y) 0 h) (and_le_l (get_or k j 0) y)
    | no e ↦ rw (get_or-set_other k j i (bit_and (get_or k j 0) y) 0 e) (le_refl (get_or k i 0))
  ]

  -- a range in the byte: there y has the bits that pass, beside it all of them
  cut_anded : (a e : ℕ) (P : ℕ → Bool) → 8 * j ≤ a → e ≤ 8 * j + 8
      → ((i : ℕ) → a ≤ i → i < e → bit_in y (i % 8) ≡ P i)
      → ((i : ℕ) → i / 8 ≡ j → (i < a) ⊎ (e ≤ i) → bit_in y (i % 8) ≡ true) → Cut a e P k anded
  cut_anded a e P l g f t = record {
    sized = length-set k j (bit_and (get_or k j 0) y);
    inside = λ i p q. let d : i / 8 ≡ j = omega arith in
        and_here i d ∙ ap (λ (x : Bool). bit_at k i && x) (f i p q);
    outside = λ i p. elim (ℕ_discrete (i / 8) j) [
      | yes d ↦ and_here i d ∙ ap (λ (x : Bool). bit_at k i && x) (t i d p) ∙ and_true (bit_at k i)
      | no d ↦ and_else i d
    ];
    falls = and_falls;
  }

  -- the whole byte
  cut_byte : (P : ℕ → Bool) → ((i : ℕ) → i / 8 ≡ j → bit_in y (i % 8) ≡ P i) → Cut (8 * j) (8 * j + 8) P k anded
  cut_byte P f = cut_anded (8 * j) (8 * j + 8) P (omega arith) (omega arith) (λ i p q. f i (omega arith))
      (λ i d p. absurd (⊎_elim (λ l. omega arith) (λ l. omega arith) p))

-- a range in one byte, cut by a masked byte
pub cut_masked : (k : List ℕ) (a e y p q : ℕ) → a / 8 < length k → e ≤ 8 * (a / 8) + 8 → p < 256 → FullFrom (a % 8) p
    → FullFrom (e - 8 * (a / 8)) q
    → Cut a e (λ i. bit_in y (i % 8)) k (set k (a / 8) (bit_and (get_or k (a / 8) 0) (bit_or y (bit_or (255 - p) q))))
cut_masked k a e y p q h l small P Q = cut_anded k (a / 8) (bit_or y (bit_or (255 - p) q)) h a e
    (λ i. bit_in y (i % 8)) (omega arith) l
    (λ i g f. masked_in y p q (a % 8) (e - 8 * (a / 8)) small P Q (i % 8) (omega arith) (omega arith) (omega arith))
    (λ i d g. masked_out y p q (a % 8) (e - 8 * (a / 8)) small P Q (i % 8) (omega arith)
    (⊎_elim (λ f. inl (omega arith)) (λ f. inr (omega arith)) g))

-- the low byte of a number has its low digits
low_digit : (x i : ℕ) → i < 8 → x % 256 / 2 ^ i % 2 ≡ x / 2 ^ i % 2
low_digit x = eight (λ i. x % 256 / 2 ^ i % 2 ≡ x / 2 ^ i % 2) (omega arith) (omega arith) (omega arith) (omega arith)
    (omega arith) (omega arith) (omega arith) (omega arith)

-- the eight bits from bit n on of two bytes
module _ (a b n : ℕ) (hb : b < 256) (hn : n < 8) where
  both : (m : ℕ) → m < 8 → (256 * a + b) / 2 ^ (8 - n) % 256 / 2 ^ (7 - m) % 2
      ≡ (256 * a + b) / 2 ^ ((8 - n) + (7 - m)) % 2
  both m hm = low_digit ((256 * a + b) / 2 ^ (8 - n)) (7 - m) (omega arith)
      ∙ ap (λ (x : ℕ). x % 2) (shr-shr (256 * a + b) (8 - n) (7 - m))

  in_first : (m : ℕ) → m < 8 → n + m < 8
      → (256 * a + b) / 2 ^ (8 - n) % 256 / 2 ^ (7 - m) % 2 ≡ a / 2 ^ (7 - (n + m)) % 2
  in_first m hm l =
      let e : (8 - n) + (7 - m) ≡ 8 + (7 - (n + m)) = omega arith in
      let f : (256 * a + b) / 256 ≡ a = omega arith in
      both m hm ∙ ap (λ (x : ℕ). (256 * a + b) / 2 ^ x % 2) e
      ∙ ap (λ (x : ℕ). x % 2) (sym (shr-shr (256 * a + b) 8 (7 - (n + m))))
      ∙ ap (λ (x : ℕ). x / 2 ^ (7 - (n + m)) % 2) f

  in_second : (m : ℕ) → m < 8 → 8 ≤ n + m
      → (256 * a + b) / 2 ^ (8 - n) % 256 / 2 ^ (7 - m) % 2 ≡ b / 2 ^ (7 - (n + m - 8)) % 2
  in_second m hm l =
      let e : (8 - n) + (7 - m) ≡ 7 - (n + m - 8) = omega arith in
      let f : (256 * a + b) % 256 ≡ b = omega arith in
      both m hm ∙ ap (λ (x : ℕ). (256 * a + b) / 2 ^ x % 2) e
      ∙ sym (low_digit (256 * a + b) (7 - (n + m - 8)) (omega arith))
      ∙ ap (λ (x : ℕ). x / 2 ^ (7 - (n + m - 8)) % 2) f

  pub two_bytes : Eight (a ∷ b ∷ []) n ((256 * a + b) / 2 ^ (8 - n) % 256)
  unfolding bit_at bit_in
  two_bytes m hm = ⊎_elim
      (λ l. let p : (n + m) / 8 ≡ 0 = omega arith in let q : (n + m) % 8 ≡ n + m = omega arith in
      rw (p, q) (ap (λ (x : ℕ). eqb x 1) (in_first m hm l)))
      (λ l. let p : (n + m) / 8 ≡ 1 = omega arith in let q : (n + m) % 8 ≡ n + m - 8 = omega arith in
      rw (p, q) (ap (λ (x : ℕ). eqb x 1) (in_second m hm l))) (less (n + m) 8)

-- two neighbouring bytes of a row
pub neighbours : (s : List ℕ) (v q n y : ℕ) → v ≡ 8 * q + n → n < 8 → Eight (get_or s q 0 ∷ get_or s (q + 1) 0 ∷ []) n y
    → Eight s v y
unfolding bit_at
neighbours s v q n y e hn E m h = E m h ∙ ⊎_elim
    (λ l. let p : (n + m) / 8 ≡ 0 = omega arith in let d : (v + m) / 8 ≡ q = omega arith in
    let r : (n + m) % 8 ≡ (v + m) % 8 = omega arith in rw (p, d, r))
    (λ l. let p : (n + m) / 8 ≡ 1 = omega arith in let d : (v + m) / 8 ≡ q + 1 = omega arith in
    let r : (n + m) % 8 ≡ (v + m) % 8 = omega arith in rw (p, d, r)) (less (n + m) 8)

-- a byte of a row
pub whole : (s : List ℕ) (v q : ℕ) → v ≡ 8 * q → Eight s v (get_or s q 0)
unfolding bit_at bit_in
whole s v q e m h = let d : (v + m) / 8 ≡ q = omega arith in let r : (v + m) % 8 ≡ m = omega arith in rw (d, r)

-- byte j + i, cut by the eight bits of the source that meet it
pub cut_eight : (k s : List ℕ) (j i v y : ℕ) → j + i < length k → Eight s (v + 8 * i) y
    → Cut (8 * (j + i)) (8 * (j + i) + 8) (from_bit s (8 * j) v) k (set k (j + i) (bit_and (get_or k (j + i) 0) y))
unfolding from_bit
cut_eight k s j i v y h E = cut_byte k (j + i) y h (from_bit s (8 * j) v)
    (λ x d. let e : v + 8 * i + x % 8 ≡ v + (x - 8 * j) = omega arith in E (x % 8) (omega arith) ∙ ap (bit_at s) e)

-- the bits of the source that meet a part of a byte
pub part_bit : (s : List ℕ) (a v y i : ℕ) → Eight s v y → a ≤ i → i < 8 * (a / 8) + 8
    → bit_in (y / 2 ^ (a % 8)) (i % 8) ≡ from_bit s a v i
unfolding from_bit
part_bit s a v y i E l h = let e : v + (i % 8 - a % 8) ≡ v + (i - a) = omega arith in
    shr_bit y (a % 8) (i % 8) (omega arith) (omega arith) ∙ E (i % 8 - a % 8) (omega arith) ∙ ap (bit_at s) e

-- the source taken up again further on
from_later : (s : List ℕ) (a v b i : ℕ) → a ≤ b → b ≤ i → from_bit s b (v + (b - a)) i ≡ from_bit s a v i
unfolding from_bit
from_later s a v b i l h = let e : v + (b - a) + (i - b) ≡ v + (i - a) = omega arith in ap (bit_at s) e

-- no whole byte yet
pub bytes_none : (j : ℕ) (P : ℕ → Bool) (k : List ℕ) → Cut (8 * j) (8 * j + 8 * 0) P k k
bytes_none j P k = let e : 8 * j + 8 * 0 ≡ 8 * j = omega arith in rw e (cut_none (8 * j) P k)

-- one whole byte more
pub bytes_more : {P : ℕ → Bool} {k k₁ k₂ : List ℕ} (j i : ℕ) → Cut (8 * j) (8 * j + 8 * i) P k k₁
    → Cut (8 * (j + i)) (8 * (j + i) + 8) P k₁ k₂ → Cut (8 * j) (8 * j + 8 * (i + 1)) P k k₂
bytes_more {P} {k} {k₁} {k₂} j i C D =
    let e : 8 * (j + i) ≡ 8 * j + 8 * i = omega arith in
    let f : 8 * (j + i) + 8 ≡ 8 * j + 8 * (i + 1) = omega arith in
    cut_join (omega arith) (omega arith) C
    (subst (λ (x : ℕ). Cut x (8 * j + 8 * (i + 1)) P k₁ k₂) e
    (subst (λ (x : ℕ). Cut (8 * (j + i)) x P k₁ k₂) f D))

-- three parts of one range
pub three_parts : {k k₁ k₂ k₃ : List ℕ} (s : List ℕ) (a b g e v : ℕ) → a ≤ b → b ≤ g → g ≤ e
    → Cut a b (from_bit s a v) k k₁ → Cut b g (from_bit s b (v + (b - a))) k₁ k₂
    → Cut g e (from_bit s g (v + (g - a))) k₂ k₃ → Cut a e (from_bit s a v) k k₃
three_parts s a b g e v l m n C D E =
    cut_join (omega arith) n (cut_join l m C (cut_same (λ i p q. from_later s a v b i l p) D))
    (cut_same (λ i p q. from_later s a v g i (omega arith) p) E)

-- m whole bytes from byte j on, replaced by as many of 0
module _ (k x : List ℕ) (j m : ℕ) (room : j + m ≤ length k) (zeros : x ≡ replicate m 0) where
  abbrev cleared : List ℕ
  cleared = take j k ++ (x ++ drop m (drop j k))

  long : length x ≡ m
  long = ap length zeros ∙ length-replicate m 0

  zero_in : (q : ℕ) → j ≤ q → q < j + m → get_or cleared q 0 ≡ 0
  zero_in q a b = mid_in k x j m room long q a b ∙ ap (λ (l : List ℕ). get_or l (q - j) 0) zeros
      ∙ get_or-replicate m (q - j) 0 0 (omega arith)

  same_out : (q : ℕ) → (q < j) ⊎ (j + m ≤ q) → get_or cleared q 0 ≡ get_or k q 0
  same_out q (inl a) = mid_before k x j m room long q a
  same_out q (inr a) = mid_after k x j m room long q a

  falls_at : (q : ℕ) → get_or cleared q 0 ≤ get_or k q 0
  falls_at q = ⊎_elim
      (λ a. omega (arith, same_out q (inl a)))
      (λ a. ⊎_elim (λ b. omega (arith, zero_in q a b)) (λ b. omega (arith, same_out q (inr b))) (less q (j + m)))
      (less q j)

  pub cut_cleared : Cut (8 * j) (8 * j + 8 * m) (λ (i : ℕ). false) k cleared
  unfolding bit_at bit_in
  cut_cleared = record {
    sized = mid_length k x j m room long;
    inside = λ i p q. rw (zero_in (i / 8) (omega arith) (omega arith)) (no_bit (i % 8) ∙ sym (and_false (bit_at k i)));
    outside = λ i p. ap (λ (y : ℕ). bit_in y (i % 8))
        (same_out (i / 8) (⊎_elim (λ a. inl (omega arith)) (λ a. inr (omega arith)) p));
    falls = falls_at;
  }
