-- The items of a part, put one by one.
use Rattle.std.specs.Prelude.{◌≡◌, List, [], ◌∷◌, ◌++◌}
use Rattle.std.proofs.Math.Path.{sym}
use Rattle.std.proofs.Common.{ap}
use Prim.Native.Nat.{ℕ, suc, ◌+◌, ◌-◌, ◌≤◌, ◌<◌}
use Rattle.std.proofs.Math.Numerals.{add-one}
use native.Mathlib.Omega.{arith}
use Rattle.written.specs.Spaced.{Tokens, part_tokens, later_items, numbered_items}
use Rattle.writer_tokens.specs.Tokens.{PutsTokens, LeftToPut}
use Rattle.writer_tokens.specs.TokenLaws.{tokens_none, tokens_then, tokens_same, left_then, left_same}
use Rattle.writer_parts.specs.Parts.{items_left}

module _ (join closing : List ℕ) (item : ℕ → Tokens) (n i : ℕ) where
  left_more : i < n → items_left join closing item n i ≡ (join ∷ item i) ++ items_left join closing item n (i + 1)
  unfolding items_left later_items numbered_items
  left_more h = let e : n - i ≡ suc (n - (i + 1)) = omega arith in rw (e, add-one i)

  left_end : n ≤ i → items_left join closing item n i ≡ closing ∷ []
  unfolding items_left later_items numbered_items
  left_end h = let e : n - i ≡ 0 = omega arith in rw e

  -- item i, behind the joining token
  pub items_next :
      {a b c d : List ℕ} {at j k l : ℕ} {all : Tokens} → i < n
      → LeftToPut a at all b j (items_left join closing item n i)
      → PutsTokens b j (join ∷ []) c k → PutsTokens c k (item i) d l
      → LeftToPut a at all d l (items_left join closing item n (i + 1))
  items_next h left first second = left_then (left_same (left_more h) left) (tokens_then first second)

module _ (opening : Tokens) (join closing : List ℕ) (item : ℕ → Tokens) (n : ℕ) where
  -- no item
  pub part_none : {a : List ℕ} {at : ℕ} → n ≡ 0
      → PutsTokens a at (part_tokens opening join closing (numbered_items item 0 n)) a at
  unfolding part_tokens numbered_items
  part_none e = rw e tokens_none

  some : 0 < n → opening ++ (item 0 ++ items_left join closing item n 1)
      ≡ part_tokens opening join closing (numbered_items item 0 n)
  unfolding part_tokens numbered_items items_left
  some h =
      let e : n ≡ suc (n - 1) = omega arith in
      sym (ap (λ (k : ℕ). part_tokens opening join closing (numbered_items item 0 k)) e)

  -- the opening tokens, the first item, the others, the closing token
  pub part_some :
      {a b c d e : List ℕ} {at j k l m : ℕ} (i : ℕ) → 0 < n → n ≤ i → PutsTokens a at opening b j
      → PutsTokens b j (item 0) c k
      → LeftToPut c k (items_left join closing item n 1) d l (items_left join closing item n i)
      → PutsTokens d l (closing ∷ []) e m
      → PutsTokens a at (part_tokens opening join closing (numbered_items item 0 n)) e m
  part_some i h g first second left last =
      tokens_same (some h) (tokens_then first (tokens_then second
      ((left_same (left_end join closing item n i g) left).whole last)))
