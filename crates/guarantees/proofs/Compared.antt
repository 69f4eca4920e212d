-- The comparisons of a well-formed record are as specs/Comparisons.antt asks, by the laws of the signs.
use Rattle.std.specs.Prelude.{◌≡◌, refl, ◌↔◌, ◌⊎◌, ℕ, ◌≤◌, ◌<◌, T}
use Rattle.std.proofs.Common.{subst, inl, inr, ltb→lt}
use Rattle.reader_record.specs.declared.Sign.{Sign}
use Rattle.reader_record.specs.declared.Sign.TheVariants.{AtMost, AtLeast, Equal, Less, Greater}
use Rattle.reader_record.specs.declared.Comparison.{Comparison}
use Rattle.reader_record.specs.declared.Constraint.{Constraint}
use Rattle.reader_record.specs.declared.Text.{Text}
use Rattle.reader_record.specs.Record.{comparison, edge, invariant_of}
use Rattle.reader_record.specs.Formed as formed
use Rattle.clocks.specs.declared.Config.{Config}
use Rattle.clocks.specs.Meaning.{clock_value, compares, met, start_of}
use Rattle.clocks.specs.States.{largest}
use Rattle.clocks.proofs.Signs.{at_most_exactly, at_least_exactly, equal_exactly, less_exactly, greater_exactly}
use Rattle.clocks.specs.Capped.{Within}
use Rattle.clocks.proofs.Agreement.{guard_within, invariant_within, compares_capped}
use Rattle.clocks.proofs.Standing.{stands_invariant, start_stands}
use Rattle.guarantees.specs.Comparisons.{ComparisonOf, of_guard, of_invariant, ComparisonsDemand}

-- what a sign says, of a comparison with that sign
by_sign :
    (P : ℕ → ℕ → Type 0) (o : Sign) → ((x b : ℕ) → T (compares o x b) ↔ P x b) → (v : Config) (q : Comparison)
    → q.sign ≡ o → T (met v q) ↔ P (clock_value v q.clock) q.bound
unfolding met
by_sign P o h v q e = rw e (h (clock_value v q.clock) q.bound)

upper_sign : (o : Sign) (b : ℕ) → T (formed.in_invariant o b) → (o ≡ AtMost) ⊎ ((o ≡ Less) × (0 < b))
unfolding formed.in_invariant
upper_sign AtMost b h = inl refl
upper_sign AtLeast b h = absurd h
upper_sign Equal b h = absurd h
upper_sign Less b h = inr (refl, ltb→lt 0 b h)
upper_sign Greater b h = absurd h

module _ (t : Text) (w : formed.WellFormed t) where
  within : (g : Constraint) → Within t g → (k : ℕ) (q : Comparison) → k < g.count → comparison g k ≡ q
      → q.bound ≤ largest t q.clock
  within g h k q l e = subst (λ (x : Comparison). x.bound ≤ largest t x.clock) e (h.bound k l)

  counted : (q : Comparison) → ComparisonOf t q → q.bound ≤ largest t q.clock
  counted q (of_guard i k h l e) = within (edge t i).guard (guard_within t w i h) k q l e
  counted q (of_invariant i k h l e) = within (invariant_of t i) (invariant_within t w i h) k q l e

  pub comparisons_promised : ComparisonsDemand t
  comparisons_promised = record {
    at_most = by_sign (λ x b. x ≤ b) AtMost at_most_exactly;
    at_least = by_sign (λ x b. b ≤ x) AtLeast at_least_exactly;
    equal = by_sign (λ x b. x ≡ b) Equal equal_exactly;
    less = by_sign (λ x b. x < b) Less less_exactly;
    greater = by_sign (λ x b. b < x) Greater greater_exactly;
    counted = counted;
    capped = λ q h x. compares_capped q.sign (largest t q.clock) x q.bound (counted q h);
    upper = λ l k h i. upper_sign (comparison (invariant_of t l) k).sign (comparison (invariant_of t l) k).bound
        (w.upper l k h i);
    start = stands_invariant t (start_of t) (start_stands t w);
  }
