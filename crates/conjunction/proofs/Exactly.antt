-- An implementation satisfies the conjunction of two systems exactly when it satisfies both (SPECIFICATION 18.1).
use Rattle.std.specs.Prelude.{◌≡◌, ◌↔◌, ℕ, T}
use Rattle.std.proofs.Common.{subst}
use Rattle.std.proofs.Math.Option.{some}
use Rattle.systems.specs.Definitions.{tick, Signature, System, Implementation, Satisfies}
use Rattle.systems.specs.Finite.{FiniteSystem, Capping}
use Rattle.systems.proofs.Capped.{back}
use Rattle.conjunction.specs.Definitions.{Enabled}
use Rattle.conjunction.proofs.Parts.{both_next_elim, both_next_intro}
use Rattle.conjunction.proofs.Conjunction.{conjunction}

module _ {A : Signature} (M N : System A) where
  -- a move of the conjunction is one of each side, and two such moves are one of it
  pub conjunction_elim : (x : M.State) (y : N.State) (c : ℕ) (w : M.State × N.State)
      → (conjunction M N).next (x, y) c ≡ some w → (M.next x c ≡ some w.0) × (N.next y c ≡ some w.1)
  conjunction_elim x y c w e = both_next_elim M.next N.next (x, y) c w e

  pub conjunction_intro : (x : M.State) (y : N.State) (c : ℕ) (u : M.State) (v : N.State)
      → M.next x c ≡ some u → N.next y c ≡ some v → (conjunction M N).next (x, y) c ≡ some (u, v)
  conjunction_intro x y c u v e f = both_next_intro M.next N.next (x, y) c (u, v) e f

  module _ (I : Implementation A) where
    satisfies_left : Enabled N → Satisfies I (conjunction M N) → Satisfies I M
    satisfies_left k S = record {
      Rel = λ s x. (y : N.State) × S.Rel s (x, y) × T (N.holds y);
      starts = (N.start, S.starts, N.start_holds);
      rule_1 = λ s x c u (y, q, h) i e.
          let (v, f) = k y c h i in
          let (j, g, p) = S.rule_1 s (x, y) c (u, v) q i (conjunction_intro x y c u v e f) in
          (j, g, (v, p, N.next_holds y c v h f));
      rule_2 = λ s x c j (y, q, h) o e.
          let (w, f, p) = S.rule_2 s (x, y) c j q o e in
          let (a, b) = conjunction_elim x y c w f in
          (w.0, a, (w.1, p, N.next_holds y c w.1 h b));
      rule_3 = λ s x j (y, q, h) e.
          let (w, f, p) = S.rule_3 s (x, y) j q e in
          let (a, b) = conjunction_elim x y tick w f in
          (w.0, a, (w.1, p, N.next_holds y tick w.1 h b));
    }

    satisfies_right : Enabled M → Satisfies I (conjunction M N) → Satisfies I N
    satisfies_right k S = record {
      Rel = λ s y. (x : M.State) × S.Rel s (x, y) × T (M.holds x);
      starts = (M.start, S.starts, M.start_holds);
      rule_1 = λ s y c v (x, q, h) i e.
          let (u, f) = k x c h i in
          let (j, g, p) = S.rule_1 s (x, y) c (u, v) q i (conjunction_intro x y c u v f e) in
          (j, g, (u, p, M.next_holds x c u h f));
      rule_2 = λ s y c j (x, q, h) o e.
          let (w, f, p) = S.rule_2 s (x, y) c j q o e in
          let (a, b) = conjunction_elim x y c w f in
          (w.1, b, (w.0, p, M.next_holds x c w.0 h a));
      rule_3 = λ s y j (x, q, h) e.
          let (w, f, p) = S.rule_3 s (x, y) j q e in
          let (a, b) = conjunction_elim x y tick w f in
          (w.1, b, (w.0, p, M.next_holds x tick w.0 h a));
    }

    satisfies_both : Satisfies I M → Satisfies I N → Satisfies I (conjunction M N)
    satisfies_both S U = record {
      Rel = λ s z. S.Rel s z.0 × U.Rel s z.1;
      starts = (S.starts, U.starts);
      rule_1 = λ s z c w (p, q) i e.
          let (a, b) = conjunction_elim z.0 z.1 c w e in
          let (j, f, r) = S.rule_1 s z.0 c w.0 p i a in
          let (k, g, t) = U.rule_1 s z.1 c w.1 q i b in
          let m : k ≡ j = cc in
          (j, f, (r, subst (λ (n : ℕ). U.Rel n w.1) m t));
      rule_2 = λ s z c j (p, q) o e.
          let (u, f, r) = S.rule_2 s z.0 c j p o e in
          let (v, g, t) = U.rule_2 s z.1 c j q o e in
          ((u, v), conjunction_intro z.0 z.1 c u v f g, (r, t));
      rule_3 = λ s z j (p, q) e.
          let (u, f, r) = S.rule_3 s z.0 j p e in
          let (v, g, t) = U.rule_3 s z.1 j q e in
          ((u, v), conjunction_intro z.0 z.1 tick u v f g, (r, t));
    }

    -- an implementation satisfies the conjunction exactly when it satisfies M and satisfies N, where both have every
    -- input possible wherever the invariant holds
    pub conjunction_exactly : Enabled M → Enabled N → Satisfies I (conjunction M N) ↔ (Satisfies I M × Satisfies I N)
    conjunction_exactly k l = (λ S. (satisfies_left l S, satisfies_right k S), λ (S, U). satisfies_both S U)

-- every input of a capped system is possible wherever its invariant holds
pub capped_enabled : {A : Signature} {M : System A} {L : FiniteSystem A} → Capping M L → Enabled M
capped_enabled {L} C x c h i =
    let k = (C.holding x).0 h in
    let (t, f) = L.enabled (C.cap x) c k i in
    let (y, g, m) = back C x c t k.0 f in
    (y, g)
