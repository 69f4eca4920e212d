-- Laws of a bitmap that is filled from the first entry on.
use Rattle.std.specs.Prelude.{◌≡◌, refl, ◌≢◌, Bool, true, false, not, List, ℕ, zero, suc, ◌+◌, ◌-◌, ◌*◌, ◌/◌, ◌%◌, ◌^◌, ◌≤◌, ◌<◌, T, length, set}
use Rattle.std.proofs.Common.{sym, subst, ap, ◌∙◌, ⊎_elim, arith, length-set, get_or-set_same, ext_get_or, lt-ltb, le-ltb}
use Rattle.std.proofs.Math.Decide.{ℕ_discrete}
use Rattle.std.proofs.Math.ListN.{get_or}
use Rattle.std.proofs.Math.Seq.{get_or-set_other}
use Rattle.systems.specs.Bools.{T_true, T_false}
use Rattle.systems.specs.Tests.{at, table}
use Rattle.systems.proofs.Sieve.{at_table}
use Rattle.bitmaps.specs.Bits.{bit_at, num, byte_of, written}
use Rattle.bitmaps.specs.BitLaws.{written_same, written_is, written_at, written_past, written_length, byte_same, bit_of, cleared_here, eight, less}
use Rattle.bitmaps.specs.Packed.{bytes_for, packed}
use Rattle.bitmaps.specs.Put.{put_bit, upto}

pub upto_in : (p : ℕ → Bool) (n i : ℕ) → i < n → upto p n i ≡ p i
unfolding upto
upto_in p n i h = rw (lt-ltb i n h)

pub upto_past : (p : ℕ → Bool) (n i : ℕ) → n ≤ i → upto p n i ≡ false
unfolding upto
upto_past p n i h = rw (le-ltb i n h)

-- a byte with bit k at 0 can take it
pub bit_room : (b k : ℕ) → k < 8 → b < 256 → (b / 2 ^ k % 2 ≡ 1 → ⊥) → b + 2 ^ k < 256
bit_room b k h l n = eight (λ k. b / 2 ^ k % 2 ≡ 0 → b + 2 ^ k < 256) (λ e. omega arith) (λ e. omega arith)
    (λ e. omega arith) (λ e. omega arith) (λ e. omega arith) (λ e. omega arith) (λ e. omega arith) (λ e. omega arith) k
    h (zero_of (b / 2 ^ k % 2) (omega arith) n)
  where
    zero_of : (x : ℕ) → x < 2 → (x ≡ 1 → ⊥) → x ≡ 0
    zero_of zero h n = refl
    zero_of (suc zero) h n = absurd (n refl)
    zero_of (suc (suc x)) h n = absurd (omega arith)

-- nothing put
pub put_nothing : (s : List ℕ) (i : ℕ) → put_bit s i false ≡ s
unfolding put_bit
put_nothing s i = ext_get_or 0 (set s (i / 8) (get_or s (i / 8) 0 + 0 * 2 ^ (7 - i % 8))) s (length-set s (i / 8) _)
    (λ j h. elim (ℕ_discrete j (i / 8)) [
      | yes e ↦ same j e (rw length-set at h)
      | no e ↦ get_or-set_other s (i / 8) j _ 0
          e
    ])
  where
    same : (j : ℕ) → j ≡ i / 8 → j < length s → get_or (set s (i / 8) (get_or s (i / 8) 0 + 0 * 2 ^ (7 - i % 8))) j 0
        ≡ get_or s j 0
    same j e l = rw e (get_or-set_same s (i / 8) _ 0 (omega arith) ∙ omega arith)

pub put_off : (s : List ℕ) (i : ℕ) (b : Bool) → b ≡ false → s ≡ put_bit s i b
put_off s i b e = rw e (sym (put_nothing s i))

pub put_on : (s : List ℕ) (i : ℕ) (b : Bool) → b ≡ true → set s (i / 8) (get_or s (i / 8) 0 + 2 ^ (7 - i % 8))
    ≡ put_bit s i b
unfolding put_bit
put_on s i b e = rw e (ap (λ (x : ℕ). set s (i / 8) (get_or s (i / 8) 0 + x)) (omega arith))

module _ (p : ℕ → Bool) (n i : ℕ) (h : i < n) where
  -- the byte that holds bit i
  more_here : (b : Bool) → b ≡ p i → byte_of (upto p i) (i / 8) + num b * 2 ^ (7 - i % 8)
      ≡ byte_of (upto p (i + 1)) (i / 8)
  more_here true e = omega (
    arith,
    cleared_here (upto p (i + 1)) (upto p i) i
        (record {
          was = upto_in p (i + 1) i (omega arith) ∙ sym e;
          now_not = upto_past p i i (omega arith);
          other =
              others;
        }),
  )
    where
      others : (j : ℕ) → j ≢ i → upto p i j ≡ upto p (i + 1) j
      others j q = ⊎_elim (λ l. upto_in p i j l ∙ sym (upto_in p (i + 1) j (omega arith)))
          (λ l. upto_past p i j l ∙ sym (upto_past p (i + 1) j (past j l q))) (less j i)
        where
          past : (j : ℕ) → i ≤ j → j ≢ i → i + 1 ≤ j
          past j l q = ⊎_elim (λ a. absurd (q (omega arith))) (λ a. a) (less j (i + 1))
  more_here false e = omega (arith, byte_same (upto p i) (upto p (i + 1)) (i / 8) (λ j l. same (8 * (i / 8) + j)))
    where
      same : (j : ℕ) → upto p i j ≡ upto p (i + 1) j
      same j = ⊎_elim (λ l. upto_in p i j l ∙ sym (upto_in p (i + 1) j (omega arith)))
          (λ l. elim (ℕ_discrete j i) [
            | yes q ↦ rw q
                (upto_past p i i (omega arith) ∙ e ∙ sym (upto_in p (i + 1) i (omega arith)))
            | no q ↦ upto_past p i j l
                ∙ sym (upto_past p (i + 1) j (past l q))
          ]) (less j i)
        where
          past : i ≤ j → j ≢ i → i + 1 ≤ j
          past l q = ⊎_elim (λ a. absurd (q (omega arith))) (λ a. a) (less j (i + 1))

  -- the other bytes
  more_else : (k : ℕ) → k ≢ i / 8 → byte_of (upto p i) k ≡ byte_of (upto p (i + 1)) k
  more_else k q = byte_same (upto p i) (upto p (i + 1)) k (λ j l. same (8 * k + j) (λ e. q (omega arith)))
    where
      same : (j : ℕ) → j ≢ i → upto p i j ≡ upto p (i + 1) j
      same j q = ⊎_elim (λ l. upto_in p i j l ∙ sym (upto_in p (i + 1) j (omega arith)))
          (λ l. upto_past p i j l ∙ sym (upto_past p (i + 1) j
          (⊎_elim (λ a. absurd (q (omega arith))) (λ a. a) (less j (i + 1))))) (less j i)

  pub put_more : (d s : List ℕ) → bytes_for n ≤ length d → s ≡ written (byte_of (upto p i)) (bytes_for n) d → (b : Bool) → b
      ≡ p i → put_bit s i b ≡ written (byte_of (upto p (i + 1))) (bytes_for n) d
  unfolding put_bit
  put_more d s l e b f =
      let w = written (byte_of (upto p i)) (bytes_for n) d in
      rw e (written_is (byte_of (upto p (i + 1))) (bytes_for n) (set w (i / 8) (get_or w (i / 8) 0 + num b * 2 ^ (7 - i % 8)))
      d l
      (length-set w (i / 8) _ ∙ written_length (byte_of (upto p i)) (bytes_for n) d l)
      (λ k m. elim (ℕ_discrete k (i / 8)) [
        | yes q ↦ here k q
        | no q ↦ get_or-set_other w (i / 8) k _ 0 q
            ∙ written_at (byte_of (upto p i)) (bytes_for n) d k m ∙ more_else k q
      ])
      (λ k m. get_or-set_other w (i / 8) k _ 0 (λ q. omega arith) ∙ written_past (byte_of (upto p i)) (bytes_for n) d k m))
    where
      here : (k : ℕ) → k ≡ i / 8 → get_or (set (written (byte_of (upto p i)) (bytes_for n) d) (i / 8)
          (get_or (written (byte_of (upto p i)) (bytes_for n) d) (i / 8) 0 + num b * 2 ^ (7 - i % 8))) k 0
          ≡ byte_of (upto p (i + 1)) k
      here k q = rw q (get_or-set_same (written (byte_of (upto p i)) (bytes_for n) d) (i / 8) _ 0
          (rw (written_length (byte_of (upto p i)) (bytes_for n) d l) (omega arith))
          ∙ rw (written_at (byte_of (upto p i)) (bytes_for n) d (i / 8) (omega arith)) (more_here b f))

  pub put_free : (d s : List ℕ) → bytes_for n ≤ length d → s ≡ written (byte_of (upto p i)) (bytes_for n) d → bit_at s i ≡ false
  put_free d s l e = bit_of (upto p i) s i (ap (λ (x : List ℕ). get_or x (i / 8) 0) e
      ∙ written_at (byte_of (upto p i)) (bytes_for n) d (i / 8) (omega arith)) ∙ upto_past p i i (omega arith)

-- bytes of 0 hold no entry
pub put_none : (p : ℕ → Bool) (m : ℕ) (d : List ℕ) → m ≤ length d → written (λ i. 0) m d
    ≡ written (byte_of (upto p 0)) m d
unfolding byte_of
put_none p m d l = written_same (λ i. 0) (byte_of (upto p 0)) m d l (λ i h. sym (zeros i))
  where
    zeros : (k : ℕ) → byte_of (upto p 0) k ≡ 0
    zeros k = rw (
      upto_past p 0 (8 * k + 0) (omega arith),
      upto_past p 0 (8 * k + 1) (omega arith),
      upto_past p 0
          (8 * k + 2) (omega arith),
      upto_past p 0 (8 * k + 3) (omega arith),
      upto_past p 0 (8 * k + 4) (omega arith),
      upto_past p 0 (8 * k + 5) (omega arith),
      upto_past p 0 (8 * k + 6) (omega arith),
      upto_past p 0 (8 * k + 7)
          (omega arith),
    )

-- all put: the table of the test
pub put_all : (p : ℕ → Bool) (n : ℕ) (d : List ℕ) → bytes_for n ≤ length d → written (byte_of (upto p n)) (bytes_for n) d
    ≡ packed n (table n p) d
unfolding packed
put_all p n d l = written_same (byte_of (upto p n)) (byte_of (at (table n p))) (bytes_for n) d l
    (λ k h. byte_same (upto p n) (at (table n p)) k (λ j q. entry (8 * k + j)))
  where
    entry : (i : ℕ) → upto p n i ≡ at (table n p) i
    entry i = ⊎_elim (λ h. inside h (p i) refl) (λ h. upto_past p n i h
        ∙ sym (T_false (at (table n p) i) (no_T (at (table n p) i) (λ t. omega (arith, ((at_table n p i).0 t).0)))))
        (less i n)
      where
        no_T : (b : Bool) → (T b → ⊥) → T (not b)
        no_T true f = f tt
        no_T false f = tt

        inside : i < n → (b : Bool) → p i ≡ b → upto p n i ≡ at (table n p) i
        inside h true e = upto_in p n i h ∙ e ∙ sym
            (T_true (at (table n p) i) ((at_table n p i).1 (h, subst T (sym e) tt)))
        inside h false e = upto_in p n i h ∙ e ∙ sym
            (T_false (at (table n p) i) (no_T (at (table n p) i) (λ t. subst T e ((at_table n p i).0 t).1)))
