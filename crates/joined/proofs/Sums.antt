-- How the moves of a list of edges add up.
use Rattle.std.specs.Prelude.{◌≡◌, Bool, cond, ℕ, zero, suc, ◌+◌}
use Rattle.std.proofs.Math.Path.{refl, ap}
use Rattle.std.proofs.Common.{sym, ◌∙◌, zero-add, arith}
use Rattle.std.proofs.Math.Bool.{true, false}
use mathlib.Core.List.{List, [], ◌∷◌, ◌++◌}
use Rattle.bitmaps.specs.Bits.{tab_from}
use Rattle.reader_record.specs.declared.Edge.{Edge}
use Rattle.reader_record.specs.declared.Text.{Text}
use Rattle.reader_record.specs.Record.{no_edge, edge, invariant_of}
use Rattle.clocks.specs.declared.Config.{Config}
use Rattle.clocks.specs.declared.Moves.{Moves}
use Rattle.clocks.specs.declared.Moves.TheVariants.{Nothing}
use Rattle.clocks.specs.Meaning.{also, edge_move, edge_moves}
use Rattle.clocks.proofs.Also.{also_nothing, also_assoc}
use Rattle.joined.specs.Joined.{matching, joined_edge, paired_with, paired, edges_of, joined_text}
use Rattle.joined.proofs.Lists.{tab_items}

-- the moves of a list, each item's by g
unfoldable pub sum : {X : Type 0} → (X → Moves) → List X → Moves
sum g [] = Nothing
sum g (x ∷ xs) = also (g x) (sum g xs)

pub sum_append : {X : Type 0} (g : X → Moves) (xs ys : List X) → sum g (xs ++ ys) ≡ also (sum g xs) (sum g ys)
unfolding sum also
sum_append g [] ys = refl
sum_append g (x ∷ xs) ys = ap (also (g x)) (sum_append g xs ys) ∙ sym (also_assoc (g x) (sum g xs) (sum g ys))

-- a table's moves, with one item more at its end
sum_more : {X : Type 0} (g : X → Moves) (f : ℕ → X) (k n : ℕ) → sum g (tab_from f k (suc n))
    ≡ also (sum g (tab_from f k n)) (g (f (k + n)))
unfolding tab_from sum also
sum_more g f k zero = let e : k + 0 ≡ k = omega arith in rw e (also_nothing (g (f k)))
sum_more g f k (suc n) =
    let e : suc k + n ≡ k + suc n = omega arith in
    ap (also (g (f k))) (rw e at (sum_more g f (suc k) n))
    ∙ sym (also_assoc (g (f k)) (sum g (tab_from f (suc k) n)) (g (f (k + suc n))))

-- the move of an edge in a text
unfoldable pub move_of : Text → Config → ℕ → Edge → Moves
move_of t v c e = edge_move (invariant_of t e.target) e v c

-- the moves by a channel are those of the edges
pub edges_sum : (t : Text) (v : Config) (c n : ℕ) → edge_moves t v c n ≡ sum (move_of t v c) (tab_from (edge t) 0 n)
unfolding edge_moves move_of
edges_sum t v c zero = unfold sum tab_from in refl
edges_sum t v c (suc n) = ap (λ (m : Moves). also m (move_of t v c (edge t n))) (edges_sum t v c n)
    ∙ sym (rw (zero-add n) at (sum_more (move_of t v c) (edge t) 0 n))

-- the moves of the joined edges are those of the matching pairs
module _ (f : ℕ → ℕ) (l r : Text) (g : Edge → Moves) where
  unfoldable pub pair_move : Edge → Edge → Moves
  pair_move a b = cond (matching f a b) (g (joined_edge l r a b)) Nothing

  with_sum : (a : Edge) (bs : List Edge) → sum g (paired_with l r f a bs) ≡ sum (pair_move a) bs
  unfolding sum paired_with pair_move
  with_sum a [] = refl
  with_sum a (b ∷ bs) = go (matching f a b) (with_sum a bs)
    where
      go : (t : Bool) → sum g (paired_with l r f a bs) ≡ sum (pair_move a) bs
          → sum g (cond t (joined_edge l r a b ∷ paired_with l r f a bs) (paired_with l r f a bs))
          ≡ also (cond t (g (joined_edge l r a b)) Nothing) (sum (pair_move a) bs)
      go true e = ap (also (g (joined_edge l r a b))) e
      go false e = unfold also in e

  pub paired_sum : (as' bs : List Edge) → sum g (paired l r f as' bs) ≡ sum (λ a. sum (pair_move a) bs) as'
  unfolding sum paired
  paired_sum [] bs = refl
  paired_sum (a ∷ as') bs = sum_append g (paired_with l r f a bs) (paired l r f as' bs)
      ∙ ap (λ (m : Moves). also m (sum g (paired l r f as' bs))) (with_sum a bs)
      ∙ ap (also (sum (pair_move a) bs)) (paired_sum as' bs)

-- so the moves of the joined record by a channel are those of the pairs of edges
pub joined_sum : (f : ℕ → ℕ) (l r : Text) (u : Config) (c : ℕ)
    → edge_moves (joined_text f l r) u c (joined_text f l r).edge_count
    ≡ sum (λ a. sum (pair_move f l r (move_of (joined_text f l r) u c) a) (edges_of r)) (edges_of l)
joined_sum f l r u c =
    let e : edges_of (joined_text f l r) ≡ paired l r f (edges_of l) (edges_of r) = unfold joined_text in
    tab_items no_edge (paired l r f (edges_of l) (edges_of r)) in
    edges_sum (joined_text f l r) u c (joined_text f l r).edge_count
    ∙ ap (sum (move_of (joined_text f l r) u c)) e
    ∙ paired_sum f l r (move_of (joined_text f l r) u c) (edges_of l) (edges_of r)
