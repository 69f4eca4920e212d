-- Two systems that match move by move are satisfied by the same implementations.
use Rattle.std.specs.Prelude.{◌≡◌, refl, ◌↔◌, ℕ}
use Rattle.std.proofs.Common.{sym, subst}
use Rattle.std.proofs.Math.Option.{some}
use Rattle.systems.specs.Definitions.{tick, Signature, System, Implementation, Satisfies}
use Rattle.conjunction.specs.Definitions.{Bisimulation}

pub inverse : {A : Signature} {M N : System A} → Bisimulation M N → Bisimulation N M
inverse r = record {
  Rel = λ y x. r.Rel x y;
  starts = r.starts;
  forth = λ y x c v q e. r.back x y c v q e;
  back = λ y x c u q e. r.forth x y c u q e;
}

satisfies_matched : {A : Signature} (I : Implementation A) {M N : System A} → Bisimulation M N → Satisfies I N
    → Satisfies I M
satisfies_matched I {M} {N} r S = record {
  Rel = λ s x. (y : N.State) × S.Rel s y × r.Rel x y;
  starts = (N.start, S.starts, r.starts);
  rule_1 = λ s x c u (y, p, q) i e.
      let (v, f, g) = r.forth x y c u q e in
      let (j, m, k) = S.rule_1 s y c v p i f in
      (j, m, (v, k, g));
  rule_2 = λ s x c j (y, p, q) o e.
      let (v, f, k) = S.rule_2 s y c j p o e in
      let (u, m, g) = r.back x y c v q f in
      (u, m, (v, k, g));
  rule_3 = λ s x j (y, p, q) e.
      let (v, f, k) = S.rule_3 s y j p e in
      let (u, m, g) = r.back x y tick v q f in
      (u, m, (v, k, g));
}

pub satisfies_bisimilar : {A : Signature} (I : Implementation A) {M N : System A} → Bisimulation M N
    → Satisfies I M ↔ Satisfies I N
satisfies_bisimilar I r = (satisfies_matched I (inverse r), satisfies_matched I r)

-- a map of states under which start and moves agree
pub along : {A : Signature} (M N : System A) (F : M.State → N.State) → F M.start ≡ N.start
    → ((x : M.State) (c : ℕ) (u : M.State) → M.next x c ≡ some u → N.next (F x) c ≡ some (F u))
    → ((x : M.State) (c : ℕ) (v : N.State) → N.next (F x) c ≡ some v
    → (u : M.State) × (M.next x c ≡ some u) × (F u ≡ v))
    → Bisimulation M N
along M N F e forth back = record {
  Rel = λ x y. F x ≡ y;
  starts = e;
  forth = λ x y c u q m. (F u, subst (λ (z : N.State). N.next z c ≡ some (F u)) q (forth x c u m), refl);
  back = λ x y c v q m. back x c v (subst (λ (z : N.State). N.next z c ≡ some v) (sym q) m);
}
