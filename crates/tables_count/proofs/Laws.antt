-- Laws of counting: one byte and one row after the other.
use mathlib.Core.Path.{◌≡◌, refl, sym, subst, ap, ◌∙◌}
use mathlib.Core.Logic.{⊎_elim}
use mathlib.Core.Bool.{Bool}
use mathlib.Core.List.{List}
use Prim.Native.Nat.{ℕ, zero, suc, ◌+◌, ◌-◌, ◌*◌, ◌/◌, ◌%◌, ◌^◌, ◌≤◌, ◌<◌}
use native.Mathlib.Nat.{div-le_self, div-one, pow-suc}
use native.Mathlib.Omega.{arith}
use lib.Dec.{T, eqb, eqb→eq}
use lib.Count.{ones, ones_step, ones-le}
use lib.Pow.{shr-shr}
use lib.ListN.{get_or}
use Rattle.systems.specs.Tests.{all}
use Rattle.systems.specs.Bools.{all_elim}
use Rattle.bitmaps.specs.Bits.{bit_at, num}
use Rattle.bitmaps.specs.BitLaws.{num_le, less}
use Rattle.bitmaps.specs.Packed.{bytes_for}
use Rattle.tables_count.specs.Pairs.{high_ones, passing, Fewer, Among, Lost}
use Rattle.tables_count.proofs.PassingLaws.{passing_same, passing_split}

-- with the other bits taken off, the ones of the byte: every byte and every m, computed
test : ℕ → Bool
test x = eqb (ones (x / 8 / 2 ^ (7 - x % 8))) (high_ones (x / 8) (suc (x % 8)))

tested : T (all 2048 test)
unfolding all test high_ones ones
tested = tt

pub high_ones_is : (b m : ℕ) → b < 256 → m < 8 → ones (b / 2 ^ (7 - m)) ≡ high_ones b (suc m)
unfolding test
high_ones_is b m h k =
    let x = b * 8 + m in
    let e : x / 8 ≡ b = omega arith in
    let f : x % 8 ≡ m = omega arith in
    rw (e, f) at (eqb→eq (ones (x / 8 / 2 ^ (7 - x % 8))) (high_ones (x / 8) (suc (x % 8)))
    (all_elim 2048 test tested x (omega arith)))

-- a byte's bits are bits of the row
pub passing_byte : (s : List ℕ) (i m : ℕ) → m ≤ 8
    → passing (bit_at s) (8 * i + m) ≡ passing (bit_at s) (8 * i) + high_ones (get_or s i 0) m
unfolding passing high_ones bit_at
passing_byte s i zero h = let e : 8 * i + 0 ≡ 8 * i = omega arith in ap (passing (bit_at s)) e ∙ omega arith
passing_byte s i (suc m) h =
    let e : 8 * i + suc m ≡ suc (8 * i + m) = omega arith in
    let d : (8 * i + m) / 8 ≡ i = omega arith in
    let r : (8 * i + m) % 8 ≡ m = omega arith in
    let b : bit_at s (8 * i + m) ≡ eqb (get_or s i 0 / 2 ^ (7 - m) % 2) 1 = rw (d, r) in
    ap (passing (bit_at s)) e ∙ omega (arith, passing_byte s i m (omega arith), ap num b)

pub shifted_small : (b m : ℕ) → b < 256 → m < 8 → b / 2 ^ (7 - m) < 256
shifted_small b m h k = omega (arith, div-le_self b (2 ^ (7 - m)))

pub high_le : (b m : ℕ) → high_ones b m ≤ m
unfolding high_ones
high_le b zero = omega arith
high_le b (suc m) = omega (arith, high_le b m, num_le (eqb (b / 2 ^ (7 - m) % 2) 1))

-- a number without some of its digits: the ones of what is taken away and of what is left
minus : (n x y : ℕ) → x < 2 ^ n → y < 2 ^ n → ((m : ℕ) → m < n → y / 2 ^ m % 2 ≤ x / 2 ^ m % 2)
    → (y ≤ x) × (ones (x - y) + ones y ≡ ones x)
unfolding ones
minus zero x y hx hy f = let p : x ≡ 0 = omega arith in let q : y ≡ 0 = omega arith in rw (p, q) (omega arith, refl)
minus (suc n) x y hx hy f =
    let two : 2 ^ suc n ≡ 2 ^ n * 2 = pow-suc 2 n in
    let low = f 0 (omega arith) in
    let (le, rest) = minus n (x / 2) (y / 2) (omega arith) (omega arith) (λ m h. higher m (f (suc m) (omega arith))) in
    let half : (x - y) / 2 ≡ x / 2 - y / 2 = omega arith in
    (omega arith, omega (arith, ones_step x, ones_step y, ones_step (x - y), ap ones half))
  where
    higher : (m : ℕ) → y / 2 ^ suc m % 2 ≤ x / 2 ^ suc m % 2 → y / 2 / 2 ^ m % 2 ≤ x / 2 / 2 ^ m % 2
    higher m h = let e : 1 + m ≡ suc m = omega arith in rw (shr-shr x 1 m, shr-shr y 1 m, e) h

-- the ones of a whole byte
pub byte_ones_are : (b : ℕ) → b < 256 → high_ones b 8 ≡ ones b
byte_ones_are b h = sym (high_ones_is b 7 h (omega arith)) ∙ ap ones (div-one b)

-- a row whose bits are among those of an old one, byte by byte
module _ (old row : List ℕ) (i : ℕ) (among : Among (i + 1) old row) (ho : get_or old i 0 < 256)
    (hr : get_or row i 0 < 256) where
  -- bit j of the byte, from the high one on
  bit_is : (k : List ℕ) (j : ℕ) → j < 8 → bit_at k (8 * i + j) ≡ eqb (get_or k i 0 / 2 ^ (7 - j) % 2) 1
  unfolding bit_at
  bit_is k j l =
      let d : (8 * i + j) / 8 ≡ i = omega arith in
      let r : (8 * i + j) % 8 ≡ j = omega arith in
      rw (d, r)

  digit : (m : ℕ) → m < 8 → get_or row i 0 / 2 ^ m % 2 ≤ get_or old i 0 / 2 ^ m % 2
  digit m l =
      let e : 7 - (7 - m) ≡ m = omega arith in
      go (get_or row i 0 / 2 ^ m % 2) (get_or old i 0 / 2 ^ m % 2) (omega arith)
      (λ x. rw e at (subst T (bit_is old (7 - m) (omega arith)) (among (8 * i + (7 - m)) (omega arith)
      (subst T (sym (bit_is row (7 - m) (omega arith))) (rw e x)))))
    where
      go : (a b : ℕ) → a < 2 → (T (eqb a 1) → T (eqb b 1)) → a ≤ b
      go zero b h f = omega arith
      go (suc zero) b h f = let q = eqb→eq b 1 (f tt) in omega arith
      go (suc (suc a)) b h f = absurd (omega arith)

  lost : (get_or row i 0 ≤ get_or old i 0) × (ones (get_or old i 0 - get_or row i 0) + ones (get_or row i 0) ≡ ones (get_or old i 0))
  lost = minus 8 (get_or old i 0) (get_or row i 0) ho hr digit

  -- no byte rises, and what it loses is counted
  pub byte_falls : get_or row i 0 ≤ get_or old i 0
  byte_falls = lost.0

  pub byte_loses : Lost old row i (i + 1) (ones (get_or old i 0 - get_or row i 0))
  byte_loses =
      let f : 8 * (i + 1) ≡ 8 * i + 8 = omega arith in record {
        count = rw f (omega (
          arith,
          lost.1,
          byte_ones_are (get_or old i 0) ho,
          byte_ones_are (get_or row i 0) hr,
          passing_byte old i 8 (omega arith),
          passing_byte row i 8 (omega arith),
        ));
      }

  pub loses_few : ones (get_or old i 0 - get_or row i 0) ≤ 8
  loses_few = ones-le 8 (get_or old i 0 - get_or row i 0) (omega arith)

-- how much is lost: till where it is counted, in no bytes, and in bytes that follow
pub lost_till : {old row : List ℕ} {a e e' r : ℕ} → e ≡ e' → Lost old row a e r → Lost old row a e' r
lost_till {old} {row} {a} {r = r} f l = subst (λ (x : ℕ). Lost old row a x r) f l

pub lost_none : {old row : List ℕ} {a : ℕ} → Lost old row a a 0
lost_none = record { count = omega arith }

pub lost_more : {old row : List ℕ} {a e e' r s : ℕ} → Lost old row a e r → Lost old row e e' s → Lost old row a e' (r + s)
lost_more l m = record { count = omega (arith, l.count, m.count) }

-- the bits of a row, the padding among them
pub fewer_among : {w : ℕ} {old row : List ℕ} → Fewer w old row → Among (bytes_for w) old row
fewer_among {w} F i h x = ⊎_elim (λ a. F.among i a x) (λ a. subst T (F.spare i a h) x) (less i w)

-- the padding, which is the same in both, left out
pub lost_end : (w : ℕ) (old row : List ℕ) → Fewer w old row → (r : ℕ) → Lost old row 0 (bytes_for w) r
    → r + passing (bit_at row) w ≡ passing (bit_at old) w
unfolding passing
lost_end w old row F r e =
    let m = 8 * bytes_for w - w in
    let f : 8 * bytes_for w ≡ w + m = omega arith in
    let e' = rw f at e.count in
    omega (
      arith,
      e',
      passing_split (bit_at row) w m,
      passing_split (bit_at old) w m,
      passing_same (λ i. bit_at row (w + i)) (λ i. bit_at old (w + i)) m (λ i h. F.spare (w + i) (omega arith) (omega arith)),
    )
