-- Lists by their items: what holds of each, and the items of the joined lists.
use Rattle.std.specs.Prelude.{◌≡◌, refl, ◌⊎◌, Bool, true, false, List, [], ◌∷◌, ◌++◌, length, get_or, ltb}
use Rattle.std.proofs.Common.{ap, ◌∙◌, inl, inr, zero-add, length-append, get_or-append-add, ltb-true, ltb-false}
use Prim.Native.Nat.{ℕ, zero, suc, ◌+◌, ◌<◌, ◌≤◌}
use Rattle.std.proofs.Math.Nat.{add-zero}
use native.Mathlib.Omega.{arith}
use Rattle.std.proofs.Math.ListN.{get_or-append, get_or-eq_default}
use Rattle.bitmaps.specs.Bits.{tab_from}
use Rattle.bitmaps.specs.BitLaws.{tab_at, length_tab}

-- each item of a list
abbrev pub Every : {X : Type 0} → (X → Type 0) → List X → Type 0
Every P [] = Unit {0}
Every P (x ∷ xs) = P x × Every P xs

module _ {X : Type 0} (P : X → Type 0) where
  pub every_append : (xs ys : List X) → Every P xs → Every P ys → Every P (xs ++ ys)
  every_append [] ys h k = k
  every_append (x ∷ xs) ys h k = (h.0, every_append xs ys h.1 k)

  pub every_tab : (f : ℕ → X) (k n : ℕ) → ((i : ℕ) → i < n → P (f (k + i))) → Every P (tab_from f k n)
  unfolding tab_from
  every_tab f k zero h = tt
  every_tab f k (suc n) h = (
    rw add-zero at (h 0 (omega arith)),
    every_tab f (suc k) n (λ i l. let e : k + suc i ≡ suc k + i = omega arith in rw e at (h (suc i) (omega arith))),
  )

  pub every_at : (d : X) (xs : List X) → Every P xs → (i : ℕ) → i < length xs → P (get_or xs i d)
  every_at d [] h i l = absurd (omega arith)
  every_at d (x ∷ xs) h zero l = h.0
  every_at d (x ∷ xs) h (suc i) l = every_at d xs h.1 i (omega arith)

-- below or not
pub below : (i n : ℕ) → (i < n) ⊎ (n ≤ i)
below i n = go (ltb i n) refl
  where
    go : (b : Bool) → ltb i n ≡ b → (i < n) ⊎ (n ≤ i)
    go true e = inl (ltb-true i n e)
    go false e = inr (ltb-false i n e)

-- the items of two tables, one behind the other
module _ {X : Type 0} (d : X) (f g : ℕ → X) (m n : ℕ) where
  pub two_left : (i : ℕ) → i < m → get_or (tab_from f 0 m ++ tab_from g 0 n) i d ≡ f i
  two_left i h = get_or-append (tab_from f 0 m) (tab_from g 0 n) d i (rw length_tab h) ∙ tab_at f d 0 m i h
      ∙ ap f (zero-add i)

  pub two_right : (i : ℕ) → i < n → get_or (tab_from f 0 m ++ tab_from g 0 n) (m + i) d ≡ g i
  two_right i h =
      let e : m + i ≡ length (tab_from f 0 m) + i = rw length_tab refl in
      rw e (get_or-append-add (tab_from f 0 m) (tab_from g 0 n) i d) ∙ tab_at g d 0 n i h ∙ ap g (zero-add i)

  pub two_past : (i : ℕ) → m + n ≤ i → get_or (tab_from f 0 m ++ tab_from g 0 n) i d ≡ d
  two_past i h = get_or-eq_default (tab_from f 0 m ++ tab_from g 0 n) d (simp (length-append, length_tab) h)

-- a list is the table of its items
pub tab_shift : {X : Type 0} (f : ℕ → X) (k n : ℕ) → tab_from f (suc k) n ≡ tab_from (λ i. f (suc i)) k n
unfolding tab_from
tab_shift f k zero = refl
tab_shift f k (suc n) = ap (λ xs. f (suc k) ∷ xs) (tab_shift f (suc k) n)

pub tab_items : {X : Type 0} (d : X) (xs : List X) → tab_from (λ i. get_or xs i d) 0 (length xs) ≡ xs
unfolding tab_from
tab_items d [] = refl
tab_items d (x ∷ xs) = ap (λ ys. x ∷ ys) (tab_shift (λ i. get_or (x ∷ xs) i d) 0 (length xs) ∙ tab_items d xs)
