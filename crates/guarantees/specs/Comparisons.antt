-- What is asked of the comparisons of a text, by each of the five signs (SPECIFICATION 3.2, 6.2, 6.4, 7.4,
-- 17.7). Definitions only: the theorem is in proofs/Guarantees.antt.
use Rattle.std.specs.Prelude.{◌≡◌, ◌↔◌, ◌⊎◌, ℕ, ◌+◌, ◌≤◌, ◌<◌, T}
use Rattle.reader_record.specs.declared.Sign.TheVariants.{AtMost, AtLeast, Equal, Less, Greater}
use Rattle.reader_record.specs.declared.Comparison.{Comparison}
use Rattle.reader_record.specs.declared.Text.{Text}
use Rattle.reader_record.specs.Record.{comparison, edge, invariant_of}
use Rattle.clocks.specs.declared.Config.{Config}
use Rattle.clocks.specs.Meaning.{clock_value, compares, met, invariant, start_of}
use Rattle.clocks.specs.States.{largest, cap}

-- q stands in the text: in the guard of an edge, or in the invariant of a location
pub data ComparisonOf (t : Text) (q : Comparison) : Type 0 where
  of_guard : (i k : ℕ) → i < t.edge_count → k < (edge t i).guard.count → comparison (edge t i).guard k ≡ q
      → ComparisonOf t q
  of_invariant : (l k : ℕ) → l < t.location_count → k < (invariant_of t l).count → comparison (invariant_of t l) k ≡ q
      → ComparisonOf t q

pub record ComparisonsDemand (t : Text) : Type 0 where
  -- a comparison is true in a configuration exactly as its sign says (SPECIFICATION 6.2)
  pub at_most : (v : Config) (q : Comparison) → q.sign ≡ AtMost → T (met v q) ↔ (clock_value v q.clock ≤ q.bound)
  pub at_least : (v : Config) (q : Comparison) → q.sign ≡ AtLeast → T (met v q) ↔ (q.bound ≤ clock_value v q.clock)
  pub equal : (v : Config) (q : Comparison) → q.sign ≡ Equal → T (met v q) ↔ (clock_value v q.clock ≡ q.bound)
  pub less : (v : Config) (q : Comparison) → q.sign ≡ Less → T (met v q) ↔ (clock_value v q.clock < q.bound)
  pub greater : (v : Config) (q : Comparison) → q.sign ≡ Greater → T (met v q) ↔ (q.bound < clock_value v q.clock)
  -- its constant counts towards M as it is written, and it cannot tell M + 1 from a larger value (SPECIFICATION 6.4)
  pub counted : (q : Comparison) → ComparisonOf t q → q.bound ≤ largest t q.clock
  pub capped : (q : Comparison) → ComparisonOf t q → (x : ℕ)
      → compares q.sign (cap (largest t q.clock + 2) x) q.bound ≡ compares q.sign x q.bound
  -- an invariant compares by `<=`, or by `<` with a constant above 0 (SPECIFICATION 3.2): so that of the start holds
  -- (SPECIFICATION 7.4)
  pub upper : (l k : ℕ) → l < t.location_count → k < (invariant_of t l).count
      → ((comparison (invariant_of t l) k).sign ≡ AtMost)
      ⊎ (((comparison (invariant_of t l) k).sign ≡ Less) × (0 < (comparison (invariant_of t l) k).bound))
  pub start : T (invariant t (start_of t))
