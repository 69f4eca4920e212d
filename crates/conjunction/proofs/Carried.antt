-- What satisfies what does not change where both are carried to a signature that says the same.
use Rattle.std.specs.Prelude.{◌↔◌}
use Rattle.systems.specs.Definitions.{Signature, System, Implementation, Satisfies}
use Rattle.conjunction.specs.Definitions.{SameSignature}
use Rattle.conjunction.proofs.Parts.{into, from, own_into, own_from}
use Rattle.conjunction.proofs.Conjunction.{carried, carried_system}

module _ {A B : Signature} (s : SameSignature A B) where
  pub satisfies_carried : (I : Implementation A) (M : System A)
      → Satisfies I M ↔ Satisfies (carried s I) (carried_system s M)
  unfolding carried
  satisfies_carried I M = (
    λ S. record {
      Rel = S.Rel;
      starts = S.starts;
      rule_1 = λ i x c v r k e. S.rule_1 i x c v r (from s c k) e;
      rule_2 = λ i x c u r o e. S.rule_2 i x c u r (o.0, own_from s c o.1) e;
      rule_3 = S.rule_3;
    },
    λ S. record {
      Rel = S.Rel;
      starts = S.starts;
      rule_1 = λ i x c v r k e. S.rule_1 i x c v r (into s c k) e;
      rule_2 = λ i x c u r o e. S.rule_2 i x c u r (o.0, own_into s c o.1) e;
      rule_3 = S.rule_3;
    },
  )
