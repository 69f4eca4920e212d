-- A text that is written for a well-formed record is read to the record's directions.
use Rattle.std.specs.Prelude.{◌≡◌, Bool}
use Rattle.std.proofs.Math.Path.{refl, subst}
use Rattle.std.proofs.Common.{sym, ◌∙◌, arith}
use Rattle.std.proofs.Math.Bool.{true, false, cond}
use Prim.Native.Nat.{ℕ, zero, suc, ◌-◌, ◌≤◌, ◌<◌}
use Rattle.std.proofs.Math.Dec.{T, eqb}
use borrow.Author.Tests.{eqb-true, eqb-false}
use Rattle.reader_record.specs.declared.Direction.{Direction}
use Rattle.reader_record.specs.declared.Direction.TheVariants as direction
use Rattle.reader_record.specs.declared.Label.{Label}
use Rattle.reader_record.specs.declared.Label.TheVariants.{Input, Output}
use Rattle.reader_record.specs.declared.Text.{Text}
use Rattle.reader_record.specs.Record.{direction_of, edge, channel}
use Rattle.reader_record.specs.Formed.{agrees, WellFormed}
use Rattle.written.proofs.Same.{label_direction, direction_after}

-- the direction of a label is the one that its mark agrees with
agreed : (o : Label) (d : Direction) → T (agrees o d) → label_direction o ≡ d
unfolding agrees label_direction
agreed (Input c) direction.Unused a = absurd a
agreed (Input c) direction.Input a = refl
agreed (Input c) direction.Output a = absurd a
agreed (Output c) direction.Unused a = absurd a
agreed (Output c) direction.Input a = absurd a
agreed (Output c) direction.Output a = refl

never_unused : (o : Label) → T (agrees o direction.Unused) → ⊥
unfolding agrees
never_unused (Input c) a = a
never_unused (Output c) a = a

module _ (t : Text) (w : WellFormed t) where
  edge_agrees : (n c : ℕ) → n < t.edge_count → channel (edge t n).label ≡ c
      → T (agrees (edge t n).label (direction_of t c))
  edge_agrees n c l e = subst (λ (i : ℕ). T (agrees (edge t n).label (direction_of t i))) e (w.direction n l)

  edge_channel : (n i : ℕ) → n < t.edge_count → eqb (channel (edge t n).label - 1) i ≡ true
      → channel (edge t n).label ≡ suc i
  edge_channel n i l e = omega (arith, eqb-true (channel (edge t n).label - 1) i e, (w.label n l).0)

  -- where one of the first n edges has the channel
  after_edge : (n i k : ℕ) → n ≤ t.edge_count → k < n → channel (edge t k).label ≡ suc i
      → direction_after t n i ≡ direction_of t (suc i)
  unfolding direction_after
  after_edge zero i k l h e = absurd (omega arith)
  after_edge (suc n) i k l h e = go (eqb (channel (edge t n).label - 1) i) refl
      (λ m. after_edge n i k (omega arith) m e)
    where
      go : (b : Bool) → eqb (channel (edge t n).label - 1) i ≡ b
          → (k < n → direction_after t n i ≡ direction_of t (suc i))
          → cond b (label_direction (edge t n).label) (direction_after t n i) ≡ direction_of t (suc i)
      go true q ih = agreed (edge t n).label (direction_of t (suc i))
          (edge_agrees n (suc i) l (edge_channel n i l q))
      go false q ih = ih (omega (arith, earlier))
        where
          earlier : k ≡ n → ⊥
          earlier z =
              let c : channel (edge t n).label ≡ suc i = subst (λ (m : ℕ). channel (edge t m).label ≡ suc i) z e in
              eqb-false (channel (edge t n).label - 1) i q (omega arith)

  -- where none has it
  after_none : (n i : ℕ) → n ≤ t.edge_count → direction_of t (suc i) ≡ direction.Unused
      → direction_after t n i ≡ direction.Unused
  unfolding direction_after
  after_none zero i l u = refl
  after_none (suc n) i l u = go (eqb (channel (edge t n).label - 1) i) refl (after_none n i (omega arith) u)
    where
      go : (b : Bool) → eqb (channel (edge t n).label - 1) i ≡ b → direction_after t n i ≡ direction.Unused
          → cond b (label_direction (edge t n).label) (direction_after t n i) ≡ direction.Unused
      go true q ih = absurd (never_unused (edge t n).label
          (subst (λ (d : Direction). T (agrees (edge t n).label d)) u
          (edge_agrees n (suc i) l (edge_channel n i l q))))
      go false q ih = ih

  -- so the edges use a channel in its direction
  pub direction_read : (i : ℕ) → i < t.channel_count
      → direction_after t t.edge_count i ≡ direction_of t (suc i)
  direction_read i l = go (direction_of t (suc i)) refl
    where
      used : (direction_of t (suc i) ≡ direction.Unused → ⊥)
          → direction_after t t.edge_count i ≡ direction_of t (suc i)
      used n =
          let (k, h, e) = w.used (suc i) (omega arith) (omega arith) n in
          after_edge t.edge_count i k (omega arith) h e

      go : (d : Direction) → direction_of t (suc i) ≡ d
          → direction_after t t.edge_count i ≡ direction_of t (suc i)
      go direction.Unused u = after_none t.edge_count i (omega arith) u ∙ sym u
      go direction.Input u = used (λ z. let n : ◌≡◌ {A = ℕ} 0 1 = cc in omega arith)
      go direction.Output u = used (λ z. let n : ◌≡◌ {A = ℕ} 0 1 = cc in omega arith)
