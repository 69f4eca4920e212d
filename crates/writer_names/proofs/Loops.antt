-- Laws of the loops: one name, one number of underscores on.
use mathlib.Core.Path.{◌≡◌, refl, sym, ap, subst, ◌∙◌}
use mathlib.Core.Bool.{Bool, true, false}
use Prim.Native.Nat.{ℕ, suc, ◌+◌, ◌-◌, ◌≤◌, ◌<◌}
use native.Mathlib.Numerals.{add-one}
use native.Mathlib.Omega.{arith}
use lib.Dec.{T}
use Rattle.systems.specs.Bools.{T_true, any_intro}
use Rattle.systems.specs.Tests.{any, least}

pub any_none : (p : ℕ → Bool) → any 0 p ≡ false
unfolding any
any_none p = refl

pub any_more : (p : ℕ → Bool) (i : ℕ) → any i p ≡ false → p i ≡ false → any (i + 1) p ≡ false
unfolding any
any_more p i e f = rw (add-one, f, e)

pub any_hits : (p : ℕ → Bool) (i n : ℕ) → i < n → p i ≡ true → any n p ≡ true
any_hits p i n h e = T_true (any n p) (any_intro n p i h (subst T (sym e) tt))

pub least_yes : (p : ℕ → Bool) (i n : ℕ) → i < n → p i ≡ true → least p i (n - i) ≡ i
unfolding least
least_yes p i n h e = let m : n - i ≡ suc (n - (i + 1)) = omega arith in ap (least p i) m ∙ rw (e, least)

pub least_no : (p : ℕ → Bool) (i n : ℕ) → i < n → p i ≡ false → least p i (n - i) ≡ least p (i + 1) (n - (i + 1))
unfolding least
least_no p i n h e =
    let m : n - i ≡ suc (n - (i + 1)) = omega arith in
    ap (least p i) m ∙ rw (e, least) (ap (λ (x : ℕ). least p x (n - (i + 1))) (sym (add-one i)))

pub least_end : (p : ℕ → Bool) (i n : ℕ) → n ≤ i → least p i (n - i) ≡ i
unfolding least
least_end p i n h = let m : n - i ≡ 0 = omega arith in rw m
