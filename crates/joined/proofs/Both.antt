-- Moves of two texts made as one.
use Rattle.std.specs.Prelude.{◌≡◌, Bool, ◌&&◌, ℕ}
use Rattle.std.proofs.Math.Path.{refl, subst}
use Rattle.std.proofs.Common.{sym, ap, ◌∙◌, arith}
use Rattle.std.proofs.Math.Logic.{⊎_elim}
use Rattle.std.proofs.Math.Bool.{true, false}
use mathlib.Core.List.{List, [], ◌∷◌}
use Rattle.clocks.specs.declared.Config.{Config}
use Rattle.clocks.specs.declared.Moves.{Moves}
use Rattle.clocks.specs.declared.Moves.TheVariants.{Nothing, One, Two}
use Rattle.clocks.specs.Meaning.{one_if, also}
use Rattle.clocks.proofs.Also.{equal_dec, also_same, also_two, also_nothing}
use Rattle.joined.proofs.Lists.{Every}
use Rattle.joined.proofs.Sums.{sum}

-- m is what moves a of the left and b of the right make together: nothing where one has none, and where each has one,
-- one that leads to a configuration related to theirs. Of moves to two configurations, which no accepted text has,
-- nothing is said.
abbrev pub Both : (Config → Config → Config → Type 0) → Moves → Moves → Moves → Type 0
Both R m Nothing b = m ≡ Nothing
Both R m (One v) Nothing = m ≡ Nothing
Both R m (One v) (One w) = (u : Config) × (m ≡ One u) × R u v w
Both R m (One v) Two = Unit {0}
Both R m Two b = Unit {0}

-- where one configuration at most is related to two
module _ (R : Config → Config → Config → Type 0) (only : (u x v w : Config) → R u v w → R x v w → u ≡ x) where
  -- moves made together that lead to the same on both sides lead to one configuration
  both_same : (m n : Moves) (v w : Config) → Both R m (One v) (One w) → Both R n (One v) (One w)
      → Both R (also m n) (One v) (One w)
  both_same m n v w (u, p, h) (x, q, k) =
      (u, ap (λ (a : Moves). also a n) p ∙ ap (also (One u)) q ∙ also_same u x (only u x v w h k), h)

  -- it adds up on either side
  both_right_more : (m n a b d : Moves) → Both R m a b → Both R n a d → Both R (also m n) a (also b d)
  unfolding also
  both_right_more m n Nothing b d h k = rw (h, k)
  both_right_more m n (One v) Nothing d h k = rw h k
  both_right_more m n (One v) (One w) Nothing h k = rw (k, also_nothing m) h
  both_right_more m n (One v) (One w) (One x) h k = ⊎_elim
      (λ e. subst (Both R (also m n) (One v)) (sym (also_same w x e))
      (both_same m n v w h (subst (λ (y : Config). Both R n (One v) (One y)) (sym e) k)))
      (λ e. subst (Both R (also m n) (One v)) (sym (also_two w x e)) tt)
      (equal_dec w x)
  both_right_more m n (One v) (One w) Two h k = tt
  both_right_more m n (One v) Two d h k = tt
  both_right_more m n Two b d h k = tt

  both_left_same : (m n : Moves) (v : Config) (b : Moves) → Both R m (One v) b → Both R n (One v) b
      → Both R (also m n) (One v) b
  unfolding also
  both_left_same m n v Nothing h k = rw (h, k)
  both_left_same m n v (One w) h k = both_same m n v w h k
  both_left_same m n v Two h k = tt

  both_left_more : (m n a d b : Moves) → Both R m a b → Both R n d b → Both R (also m n) (also a d) b
  unfolding also
  both_left_more m n Nothing d b h k = rw h k
  both_left_more m n (One v) Nothing b h k =
      subst (λ (a : Moves). Both R a (One v) b) (sym (ap (also m) k ∙ also_nothing m)) h
  both_left_more m n (One v) (One x) b h k = ⊎_elim
      (λ e. subst (λ (a : Moves). Both R (also m n) a b) (sym (also_same v x e))
      (both_left_same m n v b h (subst (λ (y : Config). Both R n (One y) b) (sym e) k)))
      (λ e. subst (λ (a : Moves). Both R (also m n) a b) (sym (also_two v x e)) tt)
      (equal_dec v x)
  both_left_more m n (One v) Two b h k = tt
  both_left_more m n Two d b h k = tt

  pub both_right_sum : {X : Type 0} (g k : X → Moves) (a : Moves) (xs : List X) → Both R Nothing a Nothing
      → Every (λ x. Both R (g x) a (k x)) xs → Both R (sum g xs) a (sum k xs)
  unfolding sum
  both_right_sum g k a [] z h = z
  both_right_sum g k a (x ∷ xs) z h = both_right_more (g x) (sum g xs) a (k x) (sum k xs) h.0
      (both_right_sum g k a xs z h.1)

  pub both_left_sum : {X : Type 0} (g k : X → Moves) (b : Moves) (xs : List X) → Every (λ x. Both R (g x) (k x) b) xs
      → Both R (sum g xs) (sum k xs) b
  unfolding sum
  both_left_sum g k b [] h = refl
  both_left_sum g k b (x ∷ xs) h = both_left_more (g x) (sum g xs) (k x) (sum k xs) b h.0
      (both_left_sum g k b xs h.1)

module _ (R : Config → Config → Config → Type 0) where
  pub both_nothing : (a : Moves) → Both R Nothing a Nothing
  both_nothing Nothing = refl
  both_nothing (One v) = refl
  both_nothing Two = tt

  -- one move each, if its test is passed
  pub both_if : (x y : Bool) (u v w : Config) → R u v w → Both R (one_if (x && y) u) (one_if x v) (one_if y w)
  unfolding one_if
  both_if true true u v w h = (u, refl, h)
  both_if true false u v w h = refl
  both_if false y u v w h = refl

-- a relation that says less
pub both_weaker : (R S : Config → Config → Config → Type 0) → ((u v w : Config) → R u v w → S u v w) → (m a b : Moves)
    → Both R m a b → Both S m a b
both_weaker R S f m Nothing b h = h
both_weaker R S f m (One v) Nothing h = h
both_weaker R S f m (One v) (One w) (u, e, h) = (u, e, f u v w h)
both_weaker R S f m (One v) Two h = tt
both_weaker R S f m Two b h = tt

-- what moves made together are, where neither side has two
module _ (R : Config → Config → Config → Type 0) where
  pub both_one : (m a b : Moves) (v w : Config) → Both R m a b → a ≡ One v → b ≡ One w
      → (u : Config) × (m ≡ One u) × R u v w
  both_one m a b v w h p q = subst (λ (b : Moves). Both R m (One v) b) q (subst (λ (a : Moves). Both R m a b) p h)

  pub both_never_two : (m a b : Moves) → Both R m a b → (a ≡ Two → ⊥) → (b ≡ Two → ⊥) → m ≡ Two → ⊥
  both_never_two m Nothing b h p q e = let z : ◌≡◌ {A = ℕ} 0 1 = cc in omega arith
  both_never_two m (One v) Nothing h p q e = let z : ◌≡◌ {A = ℕ} 0 1 = cc in omega arith
  both_never_two m (One v) (One w) h p q e = let k = h.1 in let z : ◌≡◌ {A = ℕ} 0 1 = cc in omega arith
  both_never_two m (One v) Two h p q e = q refl
  both_never_two m Two b h p q e = p refl

  -- a move is one of each side
  pub both_split : (m a b : Moves) (u : Config) → Both R m a b → (a ≡ Two → ⊥) → (b ≡ Two → ⊥) → m ≡ One u
      → (v : Config) × (w : Config) × (a ≡ One v) × (b ≡ One w) × R u v w
  both_split m Nothing b u h p q e = let z : ◌≡◌ {A = ℕ} 0 1 = cc in absurd (omega arith)
  both_split m (One v) Nothing u h p q e = let z : ◌≡◌ {A = ℕ} 0 1 = cc in absurd (omega arith)
  both_split m (One v) (One w) u (x, k, g) p q e =
      let y : x ≡ u = cc in (v, w, refl, refl, subst (λ (z : Config). R z v w) y g)
  both_split m (One v) Two u h p q e = absurd (q refl)
  both_split m Two b u h p q e = absurd (p refl)
