-- There is one largest safe set: what is said of a system by its safe states does not depend on which set says it.
use Rattle.std.specs.Prelude.{◌↔◌, List, ℕ}
use Rattle.std.proofs.Math.Option.{Option}
use Rattle.systems.specs.Definitions.{Signature, System, LargestSafeSet, RunIn, stop, step, Departure, NoDeparture, ShortestDeparture, Refines, StepRules}
use Rattle.demands.specs.Words.{Passes, PairFails, StepFails}

-- there is one largest safe set
pub same_safe : {A : Signature} {M : System A} {S Z : M.State → Type 0} → LargestSafeSet M S → LargestSafeSet M Z
    → (x : M.State) → S x ↔ Z x
same_safe {S} {Z} p q x = (λ h. q.largest S p.is_safe x h, λ h. p.largest Z q.is_safe x h)

run_among : {X : Type 0} {next : X → ℕ → Option X} {S Z : X → Type 0} (f : (x : X) → S x → Z x) {x y : X} {w : List ℕ}
    → RunIn next S x w y → RunIn next Z x w y
run_among f (stop h) = stop (f _ h)
run_among f (step h e r) = step (f _ h) e (run_among f r)

pub departure_among : {A : Signature} {M N : System A} {S Z : M.State → Type 0} (f : (x : M.State) → S x → Z x)
    (w : List ℕ)
    → Departure M N S w → Departure M N Z w
departure_among f w d = record {
  before = d.before;
  last = d.last;
  split = d.split;
  left = d.left;
  made = run_among f d.made;
  right = d.right;
  allowed = d.allowed;
  refused = d.refused;
}

-- departures, shortest departures and refinements do not depend on which it is
module _ {A : Signature} {M N : System A} {S Z : M.State → Type 0} (p : LargestSafeSet M S)
    (q : LargestSafeSet M Z) where
  pub no_departure_same : NoDeparture M N S → NoDeparture M N Z
  no_departure_same n w d = n w (departure_among (λ x. (same_safe p q x).1) w d)

  pub shortest_same : (w : List ℕ) → ShortestDeparture M N S w → ShortestDeparture M N Z w
  shortest_same w d = record {
    departure = departure_among (λ x. (same_safe p q x).0) w d.departure;
    shortest = λ v e. d.shortest v (departure_among (λ x. (same_safe p q x).1) v e);
    smallest = λ v e. d.smallest v (departure_among (λ x. (same_safe p q x).1) v e);
  }

  pub refines_same : (Q : M.State → N.State → Type 0) → Refines M N S Q → Refines M N Z Q
  refines_same Q r =
      let forth : (x : M.State) → S x → Z x = λ x. (same_safe p q x).0 in
      let back : (x : M.State) → Z x → S x = λ x. (same_safe p q x).1 in
      record {
        pair = λ s t h. let (x, y) = r.pair s t h in (forth s x, y);
        rule_1 = λ s t c v h i e. let (u, m, x, z) = r.rule_1 s t c v h i e in (u, m, forth u x, z);
        rule_2 = λ s t c u h o e x. r.rule_2 s t c u h o e (back u x);
        rule_3 = λ s t u h e x. r.rule_3 s t u h e (back u x);
      }

  pub rules_same : (Q : M.State → N.State → Type 0) (x : M.State) (y : N.State) (c : ℕ) → StepRules M N S Q x y c
      → StepRules M N Z Q x y c
  rules_same Q x y c r = record {
    rule_1 = λ v i e. let (u, m, s, z) = r.rule_1 v i e in (u, m, (same_safe p q u).0 s, z);
    rule_2 = λ u o e s. r.rule_2 u o e ((same_safe p q u).1 s);
    rule_3 = λ u t e s. r.rule_3 u t e ((same_safe p q u).1 s);
  }

  pub passes_same : (Q : M.State → N.State → Type 0) (x : M.State) (y : N.State) → Passes M N S Q x y
      → Passes M N Z Q x y
  passes_same Q x y r = record {
    allowed = ((same_safe p q x).0 r.allowed.0, r.allowed.1);
    rules = λ c. rules_same Q x y c (r.rules c);
  }

-- the lowest pair that fails
module _ {A : Signature} {M N : System A} {S Z : M.State → Type 0} (p : LargestSafeSet M S)
    (q : LargestSafeSet M Z) (Q : M.State → N.State → Type 0) (number : M.State → ℕ)
    (right_number : N.State → ℕ) where
  pub pair_fails_same : (x : M.State) (y : N.State) → PairFails M N S Q number right_number x y
      → PairFails M N Z Q number right_number x y
  pair_fails_same x y f = record {
    pair = f.pair;
    not_allowed = λ (s, h). f.not_allowed ((same_safe p q x).1 s, h);
    lowest = λ u v z l. passes_same p q Q u v (f.lowest u v z l);
  }

  pub step_fails_same : (x : M.State) (y : N.State) (c : ℕ) → StepFails M N S Q number right_number x y c
      → StepFails M N Z Q number right_number x y c
  step_fails_same x y c f = record {
    pair = f.pair;
    allowed = ((same_safe p q x).0 f.allowed.0, f.allowed.1);
    broken = λ r. f.broken (rules_same q p Q x y c r);
    least = λ d l. rules_same p q Q x y d (f.least d l);
    lowest = λ u v z l. passes_same p q Q u v (f.lowest u v z l);
  }
