-- Two texts with equal channels have equally many.
use Rattle.std.specs.Prelude.{◌≡◌, cond, List, ℕ, zero, suc, ◌+◌, ◌-◌, ◌≤◌, ◌<◌, eqb, Ok}
use Rattle.std.proofs.Common.{sym, ◌∙◌, not-suc-le-zero, arith, eq-eqb, ne_eqb}
use Rattle.reader_record.specs.declared.Text.{Text}
use Rattle.reader_formed.proofs.Cases.{when_equal}
use Rattle.pairing.specs.Channels.{Channel, EqualChannels, unmatched, right_step, WellNamed}
use Rattle.pairing.specs.Equal.{equal_when_nothing, step_there, step_injective}

-- f gives the numbers below n different numbers below m
record Spread (n m : ℕ) (f : ℕ → ℕ) : Type 0 where
  below : (i : ℕ) → i < n → f i < m
  differ : (i j : ℕ) → i < n → j < n → f i ≡ f j → i ≡ j

-- f on one number less: what went to the last number m goes where n went
abbrev freed : ℕ → ℕ → (ℕ → ℕ) → ℕ → ℕ
freed n m f i = cond (eqb (f i) m) (f n) (f i)

module _ (n m : ℕ) (f : ℕ → ℕ) (S : Spread (suc n) (suc m) f) where
  freed_last : (i : ℕ) → f i ≡ m → freed n m f i ≡ f n
  freed_last i e = rw (eq-eqb (f i) m e)

  freed_other : (i : ℕ) → (f i ≡ m → ⊥) → freed n m f i ≡ f i
  freed_other i e = rw (ne_eqb (f i) m e)

  apart : (i : ℕ) → i < n → f i ≡ f n → ⊥
  apart i h e = omega (arith, S.differ i n (omega arith) (omega arith) e)

  freed_spread : Spread n m (freed n m f)
  freed_spread = record {
    below = λ i h. when_equal (freed n m f i < m) (f i) m
        (λ e. when_equal (freed n m f i < m) (f n) m
        (λ z. absurd (apart i h (e ∙ sym z)))
        (λ z. omega (arith, freed_last i e, S.below n (omega arith))))
        (λ e. omega (arith, freed_other i e, S.below i (omega arith)));
    differ = λ i j h k e. when_equal (i ≡ j) (f i) m
        (λ a. when_equal (i ≡ j) (f j) m
        (λ b. S.differ i j (omega arith) (omega arith) (a ∙ sym b))
        (λ b. absurd (apart j k (sym (sym (freed_last i a) ∙ e ∙ freed_other j b)))))
        (λ a. when_equal (i ≡ j) (f j) m
        (λ b. absurd (apart i h (sym (freed_other i a) ∙ e ∙ freed_last j b)))
        (λ b. S.differ i j (omega arith) (omega arith) (sym (freed_other i a) ∙ e ∙ freed_other j b)));
  }

spread_fits : (n m : ℕ) (f : ℕ → ℕ) → Spread n m f → n ≤ m
spread_fits zero m f S = omega arith
spread_fits (suc n) zero f S = absurd (not-suc-le-zero (S.below n (omega arith)))
spread_fits (suc n) (suc m) f S = omega (arith, spread_fits n m (freed n m f) (freed_spread n m f S))

-- the pigeonhole principle: n numbers that are given different numbers below m are no more than m
pub pigeons : (n m : ℕ) (f : ℕ → ℕ) → ((i : ℕ) → i < n → f i < m)
    → ((i j : ℕ) → i < n → j < n → f i ≡ f j → i ≡ j) → n ≤ m
pigeons n m f below differ = spread_fits n m f (record { below = below; differ = differ })

-- channels are numbered from 1
nth : (t : Text) (i : ℕ) → i < t.channel_count → Channel t (i + 1)
nth t i h = record { from_one = omega arith; declared = omega arith }

-- the right has no fewer channels than the left
no_fewer : (s : List ℕ) (l : Text) (u : List ℕ) (r : Text) → WellNamed s l → WellNamed u r
    → EqualChannels s l u r → l.channel_count ≤ r.channel_count
no_fewer s l u r wl wr h =
    pigeons l.channel_count r.channel_count (λ i. right_step s l u r (i + 1) - 1) below differ
  where
    there : (i : ℕ) → i < l.channel_count → Channel r (right_step s l u r (i + 1))
    there i k = step_there s l u r wl wr h (i + 1) (nth l i k)

    below : (i : ℕ) → i < l.channel_count → right_step s l u r (i + 1) - 1 < r.channel_count
    below i k = omega (arith, (there i k).from_one, (there i k).declared)

    differ : (i j : ℕ) → i < l.channel_count → j < l.channel_count
        → right_step s l u r (i + 1) - 1 ≡ right_step s l u r (j + 1) - 1 → i ≡ j
    differ i j k m e =
        let q : right_step s l u r (i + 1) ≡ right_step s l u r (j + 1) =
        omega (arith, (there i k).from_one, (there j m).from_one) in
        omega (arith, step_injective s l u r wl wr h (i + 1) (j + 1) (nth l i k) (nth l j m) q)

pub equally_many : (s : List ℕ) (l : Text) (u : List ℕ) (r : Text) → WellNamed s l → WellNamed u r
    → unmatched s l u r ≡ Ok tt → l.channel_count ≡ r.channel_count
equally_many s l u r wl wr e =
    let h = equal_when_nothing s l u r wl wr e in
    omega (
      arith,
      no_fewer s l u r wl wr h,
      no_fewer u r s l wr wl (record { left = h.right; right = h.left }),
    )
