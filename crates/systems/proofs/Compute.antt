-- The same tables, with the left's safe states handed over and no round after the last that removes something: for
-- running on examples.
use Rattle.std.proofs.Math.Path.{◌≡◌, refl, sym, ap}
use Rattle.std.proofs.Common.{subst, ◌∙◌, inl, inr}
use Rattle.std.specs.Prelude.{Bool, ◌&&◌}
use Rattle.std.proofs.Math.Option.{Option, none, some}
use mathlib.Core.List.{List, [], ◌∷◌}
use Prim.Native.Nat.{ℕ, zero, suc, ◌+◌, ◌*◌, ◌/◌, ◌%◌, ◌≤◌, ◌<◌, ◌-◌}
use native.Mathlib.Omega.{arith}
use Rattle.std.proofs.Math.Dec.{T, T_not, not_T}
use Rattle.systems.specs.Tests.{all, any, least, ◌⇒◌, stays, lands, at, ones, sieve, table, round, stage}
use Rattle.systems.proofs.Sieve.{settle, settle_stage, stages, trail, trail_spec, Trail, stage_later}
use Rattle.systems.specs.Definitions.{Signature}
use Rattle.systems.specs.Finite.{FiniteSystem, cap_option, input_stays, own_lands, safe, safe_states, safe_test, if_in, pruned, input_ok, own_ok, step_ok, pair_ok, entry_ok, check, cell, pairs, widest, left_after, bad, first, walk, gone, departure_length, search_run}
use Rattle.systems.proofs.Refinement.{pair_rule, left_after_zero}
use Rattle.systems.proofs.Search.{goes_found, least_unique, gone_found, stays_empty}

module _ {A : Signature} (L : FiniteSystem A) where
  unfoldable pub safe_fast : List Bool
  safe_fast = settle (safe_test L) (table L.size L.holds) L.size

  pub safe_fast_same : safe_fast ≡ safe_states L
  unfolding safe_fast safe_states
  safe_fast_same = settle_stage (safe_test L) (table L.size L.holds) L.size

module _ {A : Signature} (L R : FiniteSystem A) where
  unfoldable pub keep_with : List Bool → List Bool → ℕ → Bool
  keep_with K X p = pair_ok A (λ s c. if_in K (L.next s c)) R.next (cell L R X) (p / R.size) (p % R.size)

  unfoldable pub pairs_with : List Bool → List Bool
  pairs_with K = table (L.size * R.size) (λ p. at K (p / R.size) && R.holds (p % R.size))

  unfoldable pub widest_with : List Bool → List Bool
  widest_with K = settle (keep_with K) (pairs_with K) (L.size * R.size)

  pub widest_with_safe : widest_with (safe_states L) ≡ widest L R
  unfolding widest_with keep_with pairs_with widest pairs pruned
  widest_with_safe = settle_stage (keep_with (safe_states L)) (pairs_with (safe_states L)) (L.size * R.size)

  -- the steps out along the tables
  unfoldable pub walk_along : List Bool → List (List Bool) → ℕ → ℕ → List ℕ
  walk_along K [] s t = []
  walk_along K (X ∷ older) s t =
      let c = least (bad (λ s c. if_in K (L.next s c)) R.next (cell L R X) s t) 0 (suc A.channels) in
      c ∷ elim (if_in K (L.next s c)) [
        | none ↦ []
        | some u ↦ elim (R.next t c)
            [ none ↦ [] | some v ↦ walk_along K older u v ]
      ]

  unfoldable pub search_with : List Bool → List ℕ
  search_with K = walk_along K (trail (keep_with K) (L.start * R.size + R.start) (pairs_with K) []
      (L.size * R.size)) L.start R.start

  walk_stages : (n s t : ℕ) → walk_along (safe_states L)
      (stages (pair_rule L R).keep (pairs L R) n) s t ≡ walk L R n s t
  unfolding walk_along walk stages pruned first left_after
  walk_stages zero s t = refl
  walk_stages (suc n) s t = ap (λ (l : List ℕ). first L R n s t ∷ l)
      (go (pruned L s (first L R n s t)) (R.next t (first L R n s t)) (walk_stages n))
    where
      go : (a b : Option ℕ) → ((u v : ℕ) → walk_along (safe_states L)
          (stages (pair_rule L R).keep (pairs L R) n) u v ≡ walk L R n u v)
          → ◌≡◌ {A = List ℕ} (elim a [
            | none ↦ []
            | some u ↦ elim b
                [ none ↦ [] | some v ↦ walk_along (safe_states L) (stages (pair_rule L R).keep (pairs L R) n) u v ]
          ])
          (elim a [ none ↦ [] | some u ↦ elim b [ none ↦ [] | some v ↦ walk L R n u v ] ])
      go none b ih = refl
      go (some u) none ih = refl
      go (some u) (some v) ih = ih u v

  -- the trail of the start pair ends in the search's run
  trail_run : T (safe L L.start) → (l : List (List Bool))
      → Trail (pair_rule L R).keep (L.start * R.size + R.start) (pairs L R) (L.size * R.size) l
      → walk_along (safe_states L) l L.start R.start ≡ search_run L R
  unfolding walk_along gone left_after
  trail_run h l (inl (e, t)) = ap (λ (l : List (List Bool)). walk_along (safe_states L) l L.start R.start) e
      ∙ sym (stays_empty L R h (not_T (gone L R (L.size * R.size))
      (λ y. T_not (left_after L R (L.size * R.size) L.start R.start) y t)))
  trail_run h l (inr (j, e, t, x, k)) =
      ap (λ (l : List (List Bool)). walk_along (safe_states L) l L.start R.start) e ∙ walk_stages (suc j)
      L.start R.start
      ∙ least_unique L R (walk L R (suc j) L.start R.start) (search_run L R)
      (goes_found L R h (suc j) x k before)
      (gone_found L R h (not_T (left_after L R (L.size * R.size) L.start R.start)
      (λ y. T_not (left_after L R (suc j) L.start R.start) x (there (suc j) (L.size * R.size) k y))))
    where
      there : (m n : ℕ) → m ≤ n → T (left_after L R n L.start R.start)
          → T (left_after L R m L.start R.start)
      there m n b y =
          let f : n ≡ (n - m) + m = omega arith in
          stage_later (pair_rule L R).keep (L.start * R.size + R.start) (pairs L R) m (n - m)
          (subst (λ (z : ℕ). T (left_after L R z L.start R.start)) f y)

      before : (i : ℕ) → i < suc j → T (gone L R i) → ⊥
      before i m y = T_not (left_after L R i L.start R.start) y (there i j (omega arith) t)

  pub search_with_safe : T (safe L L.start) → search_with (safe_states L) ≡ search_run L R
  unfolding search_with keep_with pairs_with pairs pruned stage stages left_after
  search_with_safe h =
      let e : L.size * R.size + 0 ≡ L.size * R.size = omega arith in
      trail_run h (trail (pair_rule L R).keep (L.start * R.size + R.start) (pairs L R) [] (L.size * R.size))
      (rw e at (trail_spec (pair_rule L R).keep (L.start * R.size + R.start) (pairs L R) (L.size * R.size) 0
      (left_after_zero L R L.start R.start (h, R.start_state))))

  -- for safe states that are known
  pub widest_by : (K : List Bool) → safe_states L ≡ K → widest L R ≡ widest_with K
  widest_by K e = sym widest_with_safe ∙ ap widest_with e

  pub search_by : (K : List Bool) → safe_states L ≡ K → T (at K L.start) → search_run L R ≡ search_with K
  search_by K e h = sym (search_with_safe (rw e h)) ∙ ap search_with e

-- What an example opens to compute: the tests; with them the plain definitions; or those of this file.
unfoldable pub opened_tests : Unit {0}
unfolding all any least ◌⇒◌ stays lands ones sieve table round cap_option input_stays own_lands safe_test if_in pruned
    input_ok own_ok step_ok pair_ok entry_ok check bad
opened_tests = tt

unfoldable pub opened : Unit {0}
unfolding opened_tests stage safe_states pairs widest left_after first walk gone departure_length search_run
opened = tt

unfoldable pub opened_fast : Unit {0}
unfolding opened_tests settle trail safe_fast keep_with pairs_with widest_with walk_along search_with
opened_fast = tt
