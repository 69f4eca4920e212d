-- Laws of refinement over state numbers: the check of a table, and rounds of removal of pairs, come to it.
use Rattle.std.specs.Prelude.{◌≡◌, ◌↔◌, Bool, not, ◌&&◌, List, ℕ, suc, ◌+◌, ◌*◌, ◌/◌, ◌%◌, ◌≤◌, ◌<◌}
use Rattle.std.proofs.Common.{subst, ◌∙◌, ⊎_elim, div-add-mod', arith}
use Rattle.std.proofs.Math.Option.{some}
use Rattle.std.proofs.Math.Dec.{T}
use Rattle.std.proofs.Math.Arith.{digits_lt, digits_div, digits_mod}
use Rattle.systems.specs.Bools.{and_T, and_both, T_dec, all_elim, all_intro, imp_elim, imp_intro, stays_elim, stays_intro, lands_elim, lands_intro}
use Rattle.systems.specs.Tests.{all, lands, at, ones, stage}
use Rattle.systems.proofs.Sieve.{Rule, at_round, stage_keeps, stage_within, stage_largest, at_table, ones_table}
use Rattle.systems.specs.Definitions.{Signature}
use Rattle.systems.specs.Finite.{FiniteSystem, State, safe, pruned, input_ok, own_ok, step_ok, pair_ok, Related, entry_ok, check, cell, pairs, widest, left_after}
use Rattle.systems.proofs.Safe.{safe_state, safe_keeps}
use Rattle.systems.proofs.Departure.{pruned_elim, pruned_intro}

module _ {A : Signature} (L R : FiniteSystem A) where
  -- what a pair needs: a safe left state, and a right state with its invariant true
  abbrev pub Pair : ℕ → ℕ → Type 0
  Pair s t = T (safe L s) × State R t

  -- the rules for a relation at a pair, 2 and 3 in one: the right's inputs and the left's own steps are matched
  pub record PairRule (Q : ℕ → ℕ → Type 0) (s t : ℕ) : Type 0 where
    pub inputs : (c v : ℕ) → T (A.input c) → R.next t c ≡ some v → (u : ℕ) × (pruned L s c ≡ some u) × Q u v
    pub own : (c u : ℕ) → T (not (A.input c)) → pruned L s c ≡ some u → (v : ℕ) × (R.next t c ≡ some v) × Q u v

  pub record Refinement (Q : ℕ → ℕ → Type 0) : Type 0 where
    pub pair : (s t : ℕ) → Q s t → Pair s t
    pub rule : (s t : ℕ) → Q s t → PairRule Q s t

  pub rule_map : (P Q : ℕ → ℕ → Type 0) (s t : ℕ)
      → ((c u v : ℕ) → pruned L s c ≡ some u → R.next t c ≡ some v → P u v → Q u v) → PairRule P s t
      → PairRule Q s t
  rule_map P Q s t f h = record {
    inputs = λ c v i e. let (u, p, q) = h.inputs c v i e in (u, p, f c u v p e q);
    own = λ c u o p. let (v, e, q) = h.own c u o p in (v, e, f c u v p e q);
  }

  -- at a pair, the rules say that the right matches every pruned move of the left
  abbrev pub Moves : (ℕ → ℕ → Type 0) → ℕ → ℕ → Type 0
  Moves Q s t = (c u : ℕ) → pruned L s c ≡ some u → (v : ℕ) × (R.next t c ≡ some v) × Q u v

  pub rule_moves : (Q : ℕ → ℕ → Type 0) (s t : ℕ) → Pair s t → PairRule Q s t → Moves Q s t
  rule_moves Q s t (h, k) r c u p = ⊎_elim input (λ o. r.own c u o p) (T_dec (A.input c))
    where
      input : T (A.input c) → (v : ℕ) × (R.next t c ≡ some v) × Q u v
      input i =
          let (v, e) = R.enabled t c k i in
          let (x, f, q) = r.inputs c v i e in
          let n : x ≡ u = cc in
          (v, e, subst (λ (y : ℕ). Q y v) n q)

  pub moves_rule : (Q : ℕ → ℕ → Type 0) (s t : ℕ) → Pair s t → Moves Q s t → PairRule Q s t
  moves_rule Q s t (h, k) m = record { inputs = inputs; own = λ c u o p. m c u p }
    where
      inputs : (c v : ℕ) → T (A.input c) → R.next t c ≡ some v → (u : ℕ) × (pruned L s c ≡ some u) × Q u v
      inputs c v i e =
          let (u, f) = L.enabled s c (safe_state L s h) i in
          let p = pruned_intro L s c u f ((safe_keeps L s h).inputs c u i f) in
          let (x, g, q) = m c u p in
          let n : x ≡ v = cc in
          (u, p, subst (λ (y : ℕ). Q u y) n q)

  pub pair_sound : (X : ℕ → ℕ → Bool) (s t : ℕ) → T (pair_ok A (pruned L) R.next X s t)
      → PairRule (λ u v. T (X u v)) s t
  unfolding pair_ok step_ok input_ok own_ok
  pair_sound X s t h = record {
    inputs = λ c v i e. lands_elim (λ u. X u v) (pruned L s c)
        (stays_elim (λ v. lands (λ u. X u v) (pruned L s c)) (R.next t c) v
        (imp_elim (A.input c) _ (parts c (A.input_known c i)).0 i) e);
    own = λ c u o p. lands_elim (X u) (R.next t c) (stays_elim (λ u. lands (X u) (R.next t c)) (pruned L s c) u
        (imp_elim (not (A.input c)) _ (parts c (L.next_known s c u (pruned_elim L s c u p).0)).1 o) p);
  }
    where
      parts : (c : ℕ) → c ≤ A.channels → T (input_ok A (pruned L) R.next X s t c) × T
          (own_ok A (pruned L) R.next X s t c)
      parts c l = and_both (input_ok A (pruned L) R.next X s t c) (own_ok A (pruned L) R.next X s t c)
          (all_elim (suc A.channels) (step_ok A (pruned L) R.next X s t) h c (omega arith))

  pub pair_complete : (X : ℕ → ℕ → Bool) (s t : ℕ) → PairRule (λ u v. T (X u v)) s t
      → T (pair_ok A (pruned L) R.next X s t)
  unfolding pair_ok step_ok input_ok own_ok
  pair_complete X s t h = all_intro (suc A.channels) (step_ok A (pruned L) R.next X s t)
      (λ c l. and_T (input_ok A (pruned L) R.next X s t c) (own_ok A (pruned L) R.next X s t c)
      (imp_intro (A.input c) _ (λ i. stays_intro (λ v. lands (λ u. X u v) (pruned L s c)) (R.next t c)
      (λ v e. let (u, p, q) = h.inputs c v i e in lands_intro (λ u. X u v) (pruned L s c) u p q)))
      (imp_intro (not (A.input c)) _ (λ o. stays_intro (λ u. lands (X u) (R.next t c)) (pruned L s c)
      (λ u p. let (v, e, q) = h.own c u o p in lands_intro (X u) (R.next t c) v e q))))

  pub check_sound : (X : ℕ → ℕ → Bool) → T (check L R X)
      → Related L R X L.start R.start × Refinement (Related L R X)
  unfolding check entry_ok
  check_sound X h = ((L.start_state.0, R.start_state.0, both.0), record { pair = pair; rule = rule })
    where
      both : T (X L.start R.start) × T (all L.size (λ s. all R.size (entry_ok L R X s)))
      both = and_both (X L.start R.start) (all L.size (λ s. all R.size (entry_ok L R X s))) h

      good : (s t : ℕ) → Related L R X s t → T (safe L s && R.holds t) × T (pair_ok A (pruned L) R.next X s t)
      good s t (l, k, x) = and_both (safe L s && R.holds t) (pair_ok A (pruned L) R.next X s t)
          (imp_elim (X s t) _ (all_elim R.size (entry_ok L R X s)
          (all_elim L.size (λ s. all R.size (entry_ok L R X s)) both.1 s l) t k) x)

      pair : (s t : ℕ) → Related L R X s t → Pair s t
      pair s t r = let (a, b) = and_both (safe L s) (R.holds t) (good s t r).0 in (a, (r.1, b))

      rule : (s t : ℕ) → Related L R X s t → PairRule (Related L R X) s t
      rule s t r = rule_map (λ u v. T (X u v)) (Related L R X) s t
          (λ c u v p e x. ((safe_state L u (pruned_elim L s c u p).1).0, (R.next_state t c v (pair s t r).1 e).0, x))
          (pair_sound X s t (good s t r).1)

  pub check_complete : (X : ℕ → ℕ → Bool) → Related L R X L.start R.start × Refinement (Related L R X)
      → T (check L R X)
  unfolding check entry_ok
  check_complete X (a, r) = and_T (X L.start R.start) (all L.size (λ s. all R.size (entry_ok L R X s)))
      a.2 (all_intro L.size (λ s. all R.size (entry_ok L R X s))
      (λ s l. all_intro R.size (entry_ok L R X s) (λ t k. imp_intro (X s t) _ (good s t l k))))
    where
      good : (s t : ℕ) → s < L.size → t < R.size → T (X s t)
          → T ((safe L s && R.holds t) && pair_ok A (pruned L) R.next X s t)
      good s t l k x =
          let (p, (q, h)) = r.pair s t (l, k, x) in
          and_T (safe L s && R.holds t) (pair_ok A (pruned L) R.next X s t) (and_T (safe L s) (R.holds t) p h)
          (pair_complete X s t (rule_map (Related L R X) (λ u v. T (X u v)) s t (λ c u v a b y. y.2)
          (r.rule s t (l, k, x))))

  -- the check accepts exactly the tables that stand for a refinement with the start pair
  pub check_iff : (X : ℕ → ℕ → Bool) → T (check L R X)
      ↔ (Related L R X L.start R.start × Refinement (Related L R X))
  check_iff X = (check_sound X, check_complete X)

  row_cell : (s t : ℕ) → t < R.size → ((s * R.size + t) / R.size ≡ s) × ((s * R.size + t) % R.size ≡ t)
  row_cell s t h = (digits_div s h, digits_mod s h)

  abbrev pub pair_rule : Rule
  pair_rule = record {
    Keep = λ P p. PairRule (λ u v. P (u * R.size + v)) (p / R.size) (p % R.size);
    mono = λ P Q sub p h. rule_map (λ u v. P (u * R.size + v)) (λ u v. Q (u * R.size + v)) (p / R.size)
        (p % R.size) (λ c u v a b x. sub (u * R.size + v) x) h;
    keep = λ X p. pair_ok A (pruned L) R.next (cell L R X) (p / R.size) (p % R.size);
    sound = λ X p h. pair_sound (cell L R X) (p / R.size) (p % R.size) h;
    complete = λ X p h. pair_complete (cell L R X) (p / R.size) (p % R.size) h;
  }

  pub pairs_elim : (s t : ℕ) → t < R.size → T (cell L R (pairs L R) s t) → Pair s t
  unfolding pairs
  pairs_elim s t k h =
      let (l, x) = (at_table (L.size * R.size) (λ p. safe L (p / R.size) && R.holds (p % R.size))
      (s * R.size + t)).0 h in
      let (d, m) = row_cell s t k in
      let (a, b) = and_both (safe L s) (R.holds t) (rw (d, m) at x) in
      (a, (k, b))

  pub pairs_intro : (s t : ℕ) → Pair s t → T (cell L R (pairs L R) s t)
  unfolding pairs
  pairs_intro s t (a, (k, b)) =
      let (d, m) = row_cell s t k in
      (at_table (L.size * R.size) (λ p. safe L (p / R.size) && R.holds (p % R.size)) (s * R.size + t)).1
      (digits_lt (safe_state L s a).0 k, rw (d, m) (and_T (safe L s) (R.holds t) a b))

  -- rounds of removal on a table of such pairs come to a refinement, the largest in the table
  module _ (X : List Bool) where
    pub part_refinement : (n : ℕ) → ones X ≤ n → ((p : ℕ) → T (at X p) → T (at (pairs L R) p))
        → Refinement (λ s t. (t < R.size) × T (cell L R (stage pair_rule.keep X n) s t))
    part_refinement n l inside = record {
      pair = λ s t q. pair s t q.0 q.1;
      rule = λ s t q.
          let (d, m) = row_cell s t q.0 in
          rule_map (λ u v. T (cell L R (stage pair_rule.keep X n) u v))
          (λ u v. (v < R.size) × T (cell L R (stage pair_rule.keep X n) u v)) s t
          (λ c u v a b x. ((R.next_state t c v (pair s t q.0 q.1).1 b).0, x))
          (rw (d, m) at (stage_keeps pair_rule X n l (s * R.size + t) q.1));
    }
      where
        pair : (s t : ℕ) → t < R.size → T (cell L R (stage pair_rule.keep X n) s t) → Pair s t
        pair s t k h = pairs_elim s t k (inside (s * R.size + t)
            (stage_within pair_rule.keep X n (s * R.size + t) h))

    pub part_largest : (Q : ℕ → ℕ → Type 0) → Refinement Q → ((s t : ℕ) → Q s t → T (cell L R X s t)) → (n s t : ℕ)
        → Q s t → T (cell L R (stage pair_rule.keep X n) s t)
    part_largest Q r inside n s t q =
        let (d, m) = row_cell s t (r.pair s t q).1.0 in
        stage_largest pair_rule (λ p. Q (p / R.size) (p % R.size)) X within meets n (s * R.size + t) (rw (d, m) q)
      where
        within : (p : ℕ) → Q (p / R.size) (p % R.size) → T (at X p)
        within p q = subst (λ (x : ℕ). T (at X x)) (div-add-mod' p R.size) (inside (p / R.size) (p % R.size) q)

        meets : (p : ℕ) → Q (p / R.size) (p % R.size)
            → PairRule (λ u v. Q ((u * R.size + v) / R.size) ((u * R.size + v) % R.size)) (p / R.size)
            (p % R.size)
        meets p q = rule_map Q (λ u v. Q ((u * R.size + v) / R.size) ((u * R.size + v) % R.size)) (p / R.size)
            (p % R.size)
            (λ c u v a b x. let (d, m) = row_cell u v (R.next_state (p % R.size) c v (r.pair _ _ q).1 b).0 in
            rw (d, m) x) (r.rule _ _ q)

  pub left_after_pair : (n s t : ℕ) → t < R.size → T (left_after L R n s t) → Pair s t
  unfolding left_after
  left_after_pair n s t k h = pairs_elim s t k (stage_within pair_rule.keep (pairs L R) n (s * R.size + t) h)

  pub left_after_zero : (s t : ℕ) → Pair s t → T (left_after L R 0 s t)
  unfolding left_after stage
  left_after_zero s t h = pairs_intro s t h

  pub left_after_suc : (n s t : ℕ) → t < R.size
      → left_after L R (suc n) s t ≡ (left_after L R n s t && pair_ok A (pruned L) R.next (left_after L R n) s t)
  unfolding left_after stage
  left_after_suc n s t k =
      let (d, m) = row_cell s t k in
      at_round pair_rule.keep (stage pair_rule.keep (pairs L R) n) (s * R.size + t) ∙ rw (d, m)

  -- a refinement loses no pair in any round
  pub left_after_largest : (Q : ℕ → ℕ → Type 0) → Refinement Q → (n s t : ℕ) → Q s t → T (left_after L R n s t)
  unfolding left_after
  left_after_largest Q r = part_largest (pairs L R) Q r (λ s t q. pairs_intro s t (r.pair s t q))

  -- the widest table is a refinement, and every refinement lies in it
  pub widest_refinement : Refinement (λ s t. (t < R.size) × T (cell L R (widest L R) s t))
  unfolding widest pairs
  widest_refinement = part_refinement (pairs L R) (L.size * R.size) (ones_table (L.size * R.size) _) (λ p x. x)

  pub widest_related : Refinement (Related L R (cell L R (widest L R)))
  widest_related = record {
    pair = λ s t q. widest_refinement.pair s t (q.1, q.2);
    rule = λ s t q. rule_map (λ u v. (v < R.size) × T (cell L R (widest L R) u v))
        (Related L R (cell L R (widest L R))) s t
        (λ c u v a b x. ((safe_state L u (widest_refinement.pair u v x).0).0, x.0, x.1))
        (widest_refinement.rule s t (q.1, q.2));
  }

  pub widest_largest : (Q : ℕ → ℕ → Type 0) → Refinement Q → (s t : ℕ) → Q s t → T (cell L R (widest L R) s t)
  unfolding widest left_after
  widest_largest Q r s t q = left_after_largest Q r (L.size * R.size) s t q
