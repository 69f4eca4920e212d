-- The theorems of this crate, in full over the definitions, for every two systems M (left) and N (right) with one
-- signature that are capped to finite L and R. The finite case is the instance `numbered L` with the capping
-- `identity`.
use Rattle.std.specs.Prelude.{◌≡◌, refl, ◌↔◌, Bool, List, [], ◌++◌, ℕ, ◌*◌, ◌≤◌, ◌<◌, T, length}
use Rattle.std.proofs.Common.{subst, ap, ⊎_elim, arith, length-append}
use Rattle.std.proofs.Math.Option.{Option, none, some}
use Rattle.systems.specs.Bools.{below_iff}
use Rattle.systems.specs.Definitions.{Signature, System, Implementation, Satisfies, LargestSafeSet, Run, Allows, Makes, Departure, NoDeparture, ShortestDeparture, Refines, StepRules}
use Rattle.systems.specs.Finite.{FiniteSystem, State, numbered, cap_option, Capping, safe, SafeAt, pruned, step_ok, Related, check, cell, widest, Denoted, Widest, search_run}
use Rattle.systems.proofs.Safe.{safe_state}
use Rattle.systems.proofs.Implementation.{implementable, satisfied_safe}
use Rattle.systems.proofs.Departure.{departure_made, departure_prefix, no_departure_iff}
use Rattle.systems.proofs.Refinement.{check_iff, widest_related, widest_largest}
use Rattle.systems.proofs.Search.{search_result, search_empty_iff, least_same, widest_start_iff}
use Rattle.systems.proofs.Capped.{safe_at_safe, safe_at_largest, satisfies_capped, satisfies_uncapped, computed_run, run_computed, all_run_capped, all_run_uncapped, not_allowed_capped, not_allowed_uncapped, departure_capped, departure_uncapped, refinement_uncapped, refinement_capped, table_capped, pair_iff, step_iff}

-- a finite system is capped to itself
unfoldable pub identity : {A : Signature} (L : FiniteSystem A) → Capping (numbered L) L
unfolding cap_option
identity L = record {
  cap = λ s. s;
  uncap = λ s. s;
  starts = refl;
  onto = λ s l. refl;
  holding = λ s. below_iff s L.size (L.holds s);
  agree = λ s c l. same (L.next s c);
}
  where
    same : (o : Option ℕ) → o ≡ cap_option (λ s. s) o
    same none = refl
    same (some t) = refl

-- 1. Safe states

-- The computed safe states, carried over the capping, are the largest safe set (SPECIFICATION 8.3).
pub safe_states_largest : {A : Signature} {M : System A} {L : FiniteSystem A} (C : Capping M L)
    → LargestSafeSet M (SafeAt C)
safe_states_largest C = record { is_safe = safe_at_safe C; largest = safe_at_largest C }

module _ {A : Signature} {M : System A} {L : FiniteSystem A} (C : Capping M L) where
  -- the start is safe exactly when its number is
  pub start_safe_iff : T (safe L L.start) ↔ SafeAt C M.start
  start_safe_iff = (λ h. rw C.starts h, λ h. rw C.starts at h)

  -- a system has an implementation that satisfies it exactly when its start is safe (SPECIFICATION 8.3)
  pub implementation_iff : ((I : Implementation A) × Satisfies I M) ↔ T (safe L L.start)
  implementation_iff = (
    λ (I, S). satisfied_safe I L (satisfies_capped C I S),
    λ h. let (I, S) = (implementable L).1 h in (I, satisfies_uncapped C I S),
  )

  -- a run of the system from a state whose invariant is true is one of the state numbers, and it ends in the number
  -- of its end
  pub runs_iff : (x : M.State) (w : List ℕ) (t : ℕ) → T (M.holds x)
      → ((y : M.State) × Run M.next x w y × (C.cap y ≡ t)) ↔ Run L.next (C.cap x) w t
  runs_iff x w t h = (
    λ (y, p, e). subst (λ (n : ℕ). Run L.next (C.cap x) w n) e
        (run_computed L.next w (C.cap x) (C.cap y) (all_run_capped C p h).0),
    λ p. let (y, q, e, k) = all_run_uncapped C w x t h (computed_run p) in (y, q, e),
  )

module _ {A : Signature} {M N : System A} {L R : FiniteSystem A} (C : Capping M L) (D : Capping N R) where
  -- 2. Departures and implementations (SPECIFICATION 17.3)

  -- With a safe left start: there is no departure exactly when every implementation of the left satisfies the right.
  pub no_departure_exactly : T (safe L L.start)
      → NoDeparture M N (SafeAt C) ↔ ((I : Implementation A) → Satisfies I M → Satisfies I N)
  no_departure_exactly h =
      let e = no_departure_iff L R h in (
        λ n I S. satisfies_uncapped D I (e.0 (λ w d. n w (departure_uncapped C D h w d)) I (satisfies_capped C I S)),
        λ all w d. e.1 (λ I S. satisfies_capped D I (all I (satisfies_uncapped C I S))) w (departure_capped C D w d),
      )

  -- Every departure is a run of some implementation of the left that the right does not allow.
  pub departure_made_by : T (safe L L.start) → (w : List ℕ) → Departure M N (SafeAt C) w
      → (I : Implementation A) × Satisfies I M × Makes I w × (Allows N w → ⊥)
  departure_made_by h w d =
      let (I, S, (x, e), n) = departure_made L R w h (departure_capped C D w d) in
      (I, satisfies_uncapped C I S, (x, run_computed I.next w I.start x e), not_allowed_uncapped D w n)

  -- Every run that an implementation of the left makes and the right does not allow has a departure as a prefix.
  pub departure_as_prefix : (I : Implementation A) → Satisfies I M → (w : List ℕ) → Makes I w → (Allows N w → ⊥)
      → (u : List ℕ) × (v : List ℕ) × (w ≡ u ++ v) × Departure M N (SafeAt C) u
  departure_as_prefix I S w (x, p) n =
      let s = satisfies_capped C I S in
      let (u, v, e, d) = departure_prefix L R I s w x (computed_run p) (not_allowed_capped D w n) in
      (u, v, e, departure_uncapped C D (satisfied_safe I L s) u d)

  -- 3. The search (SPECIFICATION 17.3)

  module _ (start_safe : T (safe L L.start)) where
    -- it answers the empty run exactly when there is no departure
    pub search_empty_exactly : (search_run L R ≡ []) ↔ NoDeparture M N (SafeAt C)
    search_empty_exactly =
        let e = search_empty_iff L R start_safe in (
          λ k w d. e.0 k w (departure_capped C D w d),
          λ n. e.1 (λ w d. n w (departure_uncapped C D start_safe w d)),
        )

    -- else its run is a departure, none is shorter, and none of its length is smaller (SPECIFICATION 10.4)
    pub search_shortest : (search_run L R ≡ [] → ⊥) → ShortestDeparture M N (SafeAt C) (search_run L R)
    search_shortest k = ⊎_elim (λ h. absurd (k h.0)) (λ d. record {
      departure = departure_uncapped C D start_safe (search_run L R) d.is_departure;
      shortest = λ v e. d.shortest v (departure_capped C D v e);
      smallest = λ v e. d.least_run v (departure_capped C D v e);
    }) (search_result L R start_safe)

    -- its length is at most left states × right states
    pub search_bounded : length (search_run L R) ≤ L.size * R.size
    search_bounded = ⊎_elim (λ h. let k : length (search_run L R) ≡ 0 = ap length h.0 in omega arith)
        (λ d. d.bounded) (search_result L R start_safe)

    -- the search answers the empty run exactly when every implementation of the left satisfies the right
    pub search_implementations : (search_run L R ≡ []) ↔ ((I : Implementation A) → Satisfies I M → Satisfies I N)
    search_implementations =
        let e = search_empty_exactly in
        let f = no_departure_exactly start_safe in
        (λ k. f.0 (e.0 k), λ all. e.1 (f.1 all))

    -- else its steps are made by some implementation of the left and not allowed by the right
    pub search_made : (search_run L R ≡ [] → ⊥)
        → (I : Implementation A) × Satisfies I M × Makes I (search_run L R) × (Allows N (search_run L R) → ⊥)
    search_made k = departure_made_by start_safe (search_run L R) (search_shortest k).departure

    -- every run that an implementation of the left makes and the right does not allow has at least its length; where
    -- it is empty there is none
    pub search_at_least : (I : Implementation A) → Satisfies I M → (w : List ℕ) → Makes I w → (Allows N w → ⊥)
        → (search_run L R ≡ [] → ⊥) × (length (search_run L R) ≤ length w)
    search_at_least I S w p n =
        let (u, v, e, d) = departure_as_prefix I S w p n in
        let k : search_run L R ≡ [] → ⊥ = λ z. search_empty_exactly.0 z u d in
        (k, omega (arith, (search_shortest k).shortest u d, simp length-append at (ap length e)))

  -- 4. Tables (SPECIFICATION 17.2). A table denotes a relation of all pairs of states, also of those with a false
  -- invariant.

  -- The check accepts a table exactly when the relation it denotes contains the start pair and meets the rules.
  pub check_exactly : (X : ℕ → ℕ → Bool)
      → T (check L R X) ↔ (Denoted C D X M.start N.start × Refines M N (SafeAt C) (Denoted C D X))
  check_exactly X = (
    λ h. let (a, r) = (check_iff L R X).0 h in
        (rw (C.starts, D.starts) a, refinement_uncapped C D (Related L R X) r),
    λ (a, r). (check_iff L R X).1 (rw (C.starts, D.starts) at a, table_capped C D X r),
  )

  -- Code 19: a pair of states is one of a safe s and a t whose invariant is true exactly when the pair of their
  -- numbers is.
  pub pair_exactly : (x : M.State) (y : N.State)
      → (SafeAt C x × T (N.holds y)) ↔ (T (safe L (C.cap x)) × State R (D.cap y))
  pair_exactly x y = pair_iff C D x y

  -- Code 20: the test of a step at a pair of numbers passes exactly when the rules hold for that step at each pair of
  -- states with these numbers.
  pub step_exactly : (X : ℕ → ℕ → Bool) (x : M.State) (y : N.State) (c : ℕ)
      → C.cap x < L.size → D.cap y < R.size
      → T (step_ok A (pruned L) R.next X (C.cap x) (D.cap y) c)
      ↔ StepRules M N (SafeAt C) (λ u v. T (X (C.cap u) (D.cap v))) x y c
  step_exactly X x y c l k = step_iff C D X x y c l k

  -- The widest table (SPECIFICATION 11.6): what it denotes is a relation that meets the rules, and every such relation
  -- lies in it.
  pub widest_refines : Refines M N (SafeAt C) (Widest C D)
  widest_refines = refinement_uncapped C D (Related L R (cell L R (widest L R))) (widest_related L R)

  pub widest_contains : (Q : M.State → N.State → Type 0) → Refines M N (SafeAt C) Q → (x : M.State) (y : N.State)
      → Q x y → Widest C D x y
  widest_contains Q r x y q =
      let (s, h) = r.pair x y q in
      let most = widest_largest L R _ (refinement_capped C D Q r) (C.cap x) (D.cap y) (x, y, q, refl, refl) in
      ((safe_state L (C.cap x) s).0, ((D.holding y).0 h).0, most)

  -- both directions in one
  pub widest_exactly : (x : M.State) (y : N.State)
      → Widest C D x y ↔ ((Q : M.State → N.State → Type 0) × Refines M N (SafeAt C) Q × Q x y)
  widest_exactly x y = (λ q. (Widest C D, widest_refines, q), λ (Q, r, q). widest_contains Q r x y q)

  -- with a safe left start, it has the start pair exactly when there is no departure
  pub widest_start_exactly : T (safe L L.start) → Widest C D M.start N.start ↔ NoDeparture M N (SafeAt C)
  widest_start_exactly h =
      let e = widest_start_iff L R h in (
        λ q w d. e.0 (rw (C.starts, D.starts) at q.2) w (departure_capped C D w d),
        λ n.
            let q = e.1 (λ w d. n w (departure_uncapped C D h w d)) in
            rw (C.starts, D.starts) (L.start_state.0, R.start_state.0, q),
      )

-- there is only one such departure
pub shortest_unique : {A : Signature} (M N : System A) (S : M.State → Type 0) (v w : List ℕ)
    → ShortestDeparture M N S v → ShortestDeparture M N S w → v ≡ w
shortest_unique M N S v w p q =
    let d = p.departure in
    let e = q.departure in
    least_same v w (p.shortest w e) (q.shortest v d) (p.smallest w e) (q.smallest v d)

-- The finite case: a system that is its own numbers.
module _ {A : Signature} (L R : FiniteSystem A) where
  pub finite_safe : LargestSafeSet (numbered L) (λ s. T (safe L s))
  unfolding identity
  finite_safe = safe_states_largest (identity L)

  pub finite_search : T (safe L L.start)
      → (search_run L R ≡ []) ↔ ((I : Implementation A) → Satisfies I (numbered L) → Satisfies I (numbered R))
  finite_search = search_implementations (identity L) (identity R)

  pub finite_check : (X : ℕ → ℕ → Bool)
      → T (check L R X)
      ↔ (Related L R X L.start R.start × Refines (numbered L) (numbered R) (λ s. T (safe L s)) (Related L R X))
  unfolding identity
  finite_check X = check_exactly (identity L) (identity R) X

  pub finite_widest : (s t : ℕ)
      → Related L R (cell L R (widest L R)) s t
      ↔ ((Q : ℕ → ℕ → Type 0) × Refines (numbered L) (numbered R) (λ s. T (safe L s)) Q × Q s t)
  unfolding identity
  finite_widest s t = widest_exactly (identity L) (identity R) s t
