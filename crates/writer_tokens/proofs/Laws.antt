-- A byte once more.
use mathlib.Core.Path.{◌≡◌, refl, ap}
use mathlib.Core.List.{List, [], ◌∷◌, ◌++◌}
use Prim.Native.Nat.{ℕ, zero, suc, ◌+◌}
use native.Mathlib.Numerals.{add-one}
use lib.ListN.{replicate}

again : (n b : ℕ) → replicate n b ++ (b ∷ []) ≡ replicate (suc n) b
again zero b = refl
again (suc n) b = ap (λ (l : List ℕ). b ∷ l) (again n b)

pub once_more : (n b : ℕ) → replicate n b ++ (b ∷ []) ≡ replicate (n + 1) b
once_more n b = rw add-one (again n b)
