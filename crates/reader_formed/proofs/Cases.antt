-- Cases on a test, on an index of a list with one item stored or of equal items, and on where a run of items ends.
use Rattle.std.specs.Prelude.{◌≡◌, refl, Bool, true, false, cond, ◌&&◌, ◌||◌, eqb, ltb, length, get_or, set, replicate}
use Rattle.std.proofs.Common.{sym, arith, get_or-set_same, get_or-set_other, eqb-true, ltb-true, ltb-false}
use mathlib.Core.List.{List, [], ◌∷◌}
use Prim.Native.Nat.{ℕ, zero, suc, ◌<◌}
use Rattle.std.proofs.lemmas.List.{length-replicate, get_or-replicate}
use Rattle.std.proofs.Math.ListN.{get_or-eq_default}
use Rattle.std.proofs.lemmas.Bool.{eqb-false}
use Rattle.reader_tokens.specs.Scan.{run}

pub split : {A : Type 0} (P : A → Type 0) (b : Bool) {x y : A} → (b ≡ true → P x) → (b ≡ false → P y) → P (cond b x y)
split P true f g = f refl
split P false f g = g refl

-- what holds on both sides of a test
pub either : {A : Type 0} (P : A → Type 0) (b : Bool) {x y : A} → P x → P y → P (cond b x y)
either P true f g = f
either P false f g = g

pub never : {P : Type 0} → ◌≡◌ {A = Bool} true false → P
never e = let n : ◌≡◌ {A = ℕ} 0 1 = cc in absurd (omega arith)

pub and_left : (a b : Bool) → a && b ≡ true → a ≡ true
and_left true b e = refl
and_left false b e = never (sym e)

pub and_right : (a b : Bool) → a && b ≡ true → b ≡ true
and_right true b e = e
and_right false b e = never (sym e)

-- a test that fails on both sides
pub or_left : (a b : Bool) → a || b ≡ false → a ≡ false
or_left true b e = never e
or_left false b e = refl

pub or_right : (a b : Bool) → a || b ≡ false → b ≡ false
or_right true b e = never e
or_right false b e = e

pub when_equal : (P : Type 0) (i j : ℕ) → (i ≡ j → P) → ((i ≡ j → ⊥) → P) → P
when_equal P i j f g = by (eqb i j) refl
  where
    by : (b : Bool) → eqb i j ≡ b → P
    by true e = f (eqb-true i j e)
    by false e = g (eqb-false i j e)

-- what holds of the item stored at k, and of the others, holds of each
pub stored :
    {A : Type 0} (P : A → Type 0) (l : List A) (k i : ℕ) (a d : A) → k < length l → (i ≡ k → P a)
    → ((i ≡ k → ⊥) → P (get_or l i d)) → P (get_or (set l k a) i d)
stored P l k i a d h f g =
    when_equal (P (get_or (set l k a) i d)) i k
    (λ e. rw (e, get_or-set_same l k a d h) (f e))
    (λ e. rw (get_or-set_other l k i a d e) (g e))

-- what holds of an item of a list and of what is stored in it, wherever that is, holds after it is stored
pub set_each :
    {A : Type 0} (P : A → Type 0) (l : List A) (k i : ℕ) (a d : A) → P a → P (get_or l i d) → P (get_or (set l k a) i d)
set_each P [] k i a d p q = q
set_each P (b ∷ l) zero zero a d p q = p
set_each P (b ∷ l) zero (suc i) a d p q = q
set_each P (b ∷ l) (suc k) zero a d p q = q
set_each P (b ∷ l) (suc k) (suc i) a d p q = set_each P l k i a d p q

-- a list of equal items has that item wherever it is read
pub blank : {A : Type 0} (n i : ℕ) (a : A) → get_or (replicate n a) i a ≡ a
blank n i a = by (ltb i n) refl
  where
    by : (b : Bool) → ltb i n ≡ b → get_or (replicate n a) i a ≡ a
    by true e = get_or-replicate n i a a (ltb-true i n e)
    by false e = get_or-eq_default (replicate n a) a (omega (arith, length-replicate n a, ltb-false i n e))

module _ {A : Type 0} (p : A → Bool) (d : A) where
  -- the item at which a run stops, and those before it
  pub run_stops : (l : List A) → run p l < length l → p (get_or l (run p l) d) ≡ false
  unfolding run
  run_stops [] = λ h. absurd (omega arith)
  run_stops (b ∷ l) =
      split (λ n. n < suc (length l) → p (get_or (b ∷ l) n d) ≡ false) (p b)
      (λ e h. run_stops l (omega arith))
      (λ e h. e)

  pub run_passes : (l : List A) (j : ℕ) → j < run p l → p (get_or l j d) ≡ true
  unfolding run
  run_passes [] j = λ h. absurd (omega arith)
  run_passes (b ∷ l) zero = split (λ n. 0 < n → p b ≡ true) (p b) (λ e h. e) (λ e h. absurd (omega arith))
  run_passes (b ∷ l) (suc j) =
      split (λ n. suc j < n → p (get_or l j d) ≡ true) (p b)
      (λ e h. run_passes l j (omega arith))
      (λ e h. absurd (omega arith))
