-- Counts of states that a text can have are within the limit, so no size is too large for a number.
use mathlib.Core.Path.{◌≡◌, refl, sym, subst, ◌∙◌}
use mathlib.Core.Bool.{Bool, true, false, not, ◌&&◌}
use Prim.Native.Nat.{ℕ, ◌*◌, ◌≤◌}
use native.Mathlib.Nat.{mul-le-mul_left, mul-le-mul_right}
use native.Mathlib.Omega.{arith}
use lib.Dec.{T, eqb, leb}
use borrow.Author.Tests.{leb-true}
use Rattle.limits.specs.Limits.{state_limit, pair_limit}
use Rattle.megzhoi_c.specs.Sizes.{possible}

-- what a function that asks for a test has found, by its answer r to it
pub denied : {a : Bool} (r : Bool) → r ≡ a → r ≡ false → a ≡ false
denied r e h = sym e ∙ h

pub granted : {a : Bool} (r : Bool) → r ≡ a → r ≡ true → a ≡ true
granted r e h = sym e ∙ h

-- both parts of a test that is true
left_part : (a b : Bool) → (a && b) ≡ true → a ≡ true
left_part true b e = refl
left_part false b e = e

right_part : (a b : Bool) → (a && b) ≡ true → b ≡ true
right_part true b e = e
right_part false b e = absurd (subst T (sym e) tt)

-- a possible count is within the limit
pub few : (n : ℕ) → possible n ≡ true → n ≤ state_limit
unfolding possible
few n e = leb-true n state_limit (right_part (not (eqb n 0)) (leb n state_limit) e)

-- and so are two
pub left_few : (n w : ℕ) → (possible n && possible w) ≡ true → n ≤ state_limit
left_few n w e = few n (left_part (possible n) (possible w) e)

pub right_few : (n w : ℕ) → (possible n && possible w) ≡ true → w ≤ state_limit
right_few n w e = few w (right_part (possible n) (possible w) e)

-- the pairs of so many states
pub pairs_few : (n w : ℕ) → (possible n && possible w) ≡ true → n * w ≤ pair_limit
pairs_few n w e = omega (arith, mul-le-mul_right w (left_few n w e), mul-le-mul_left state_limit (right_few n w e))
