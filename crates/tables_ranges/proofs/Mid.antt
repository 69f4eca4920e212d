-- A list in which a part is replaced by another of its length, item by item.
use Rattle.std.specs.Prelude.{◌≡◌, List, ◌++◌, ℕ, ◌+◌, ◌-◌, ◌≤◌, ◌<◌, length, get_or, take, drop}
use Rattle.std.proofs.Common.{arith}
use Rattle.std.proofs.lemmas.Grind.{common_steps}

module _ (k x : List ℕ) (j m : ℕ) (room : j + m ≤ length k) (long : length x ≡ m) where
  pub mid_length : length (take j k ++ (x ++ drop m (drop j k))) ≡ length k
  mid_length = grind (arith, common_steps)

  pub mid_in : (q : ℕ) → j ≤ q → q < j + m → get_or (take j k ++ (x ++ drop m (drop j k))) q 0 ≡ get_or x (q - j) 0
  mid_in q a b = grind (arith, common_steps)

  pub mid_before : (q : ℕ) → q < j → get_or (take j k ++ (x ++ drop m (drop j k))) q 0 ≡ get_or k q 0
  mid_before q a = grind (arith, common_steps)

  pub mid_after : (q : ℕ) → j + m ≤ q → get_or (take j k ++ (x ++ drop m (drop j k))) q 0 ≡ get_or k q 0
  mid_after q a = grind (arith, common_steps)
