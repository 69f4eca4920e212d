-- The joined record asks for the right's numbers of the left's channels alone: so a table of them does.
use Rattle.std.specs.Prelude.{◌≡◌, ℕ, ◌≤◌, ◌<◌}
use Rattle.std.proofs.Math.Path.{refl}
use Rattle.std.proofs.Common.{ap, ◌∙◌, zero-add, arith}
use mathlib.Core.List.{List, [], ◌∷◌}
use Rattle.limits.specs.Limits.{step_limit}
use Rattle.bitmaps.specs.Bits.{tab_from}
use Rattle.bitmaps.specs.BitLaws.{tab_at}
use Rattle.reader_record.specs.declared.Edge.{Edge}
use Rattle.reader_record.specs.declared.Text.{Text}
use Rattle.reader_record.specs.Record.{edge, channel}
use Rattle.reader_record.specs.Formed.{WellFormed}
use Rattle.joined.specs.Joined.{matching, paired_with, paired, edges_of, joined_edges, joined_text}
use Rattle.joined.proofs.Lists.{Every, every_tab}
use Rattle.joining_edges.specs.Edges.{by_map}

-- f and g agree at the channel of an edge
abbrev Agree : (ℕ → ℕ) → (ℕ → ℕ) → Edge → Type 0
Agree f g a = f (channel a.label) ≡ g (channel a.label)

module _ (f g : ℕ → ℕ) (l r : Text) where
  with_same : (a : Edge) → Agree f g a → (bs : List Edge) → paired_with l r f a bs ≡ paired_with l r g a bs
  unfolding paired_with matching
  with_same a e [] = refl
  with_same a e (b ∷ bs) = rw (e, with_same a e bs)

  lists_same : (xs bs : List Edge) → Every (Agree f g) xs → paired l r f xs bs ≡ paired l r g xs bs
  unfolding paired
  lists_same [] bs h = refl
  lists_same (a ∷ xs) bs h = rw (with_same a h.0 bs, lists_same xs bs h.1)

  module _ (w : WellFormed l) (h : (c : ℕ) → c ≤ l.channel_count → f c ≡ g c) where
    edges_same : joined_edges f l r ≡ joined_edges g l r
    edges_same = lists_same (edges_of l) (edges_of r)
        (every_tab (Agree f g) (edge l) 0 l.edge_count
        (λ i k. rw (zero-add i) (h (channel (edge l i).label) (w.label i k).1)))

    pub joined_same : joined_text f l r ≡ joined_text g l r
    unfolding joined_text
    joined_same = rw edges_same

-- a table of the steps
pub table_same : (f : ℕ → ℕ) (c : ℕ) → c < step_limit → by_map (tab_from f 0 step_limit) c ≡ f c
table_same f c h = tab_at f 0 0 step_limit c h ∙ ap f (zero-add c)

pub joined_by_table : (f : ℕ → ℕ) (l r : Text) → WellFormed l
    → joined_text (by_map (tab_from f 0 step_limit)) l r ≡ joined_text f l r
joined_by_table f l r w = joined_same (by_map (tab_from f 0 step_limit)) f l r w
    (λ c h. table_same f c (omega (arith, w.channels)))
