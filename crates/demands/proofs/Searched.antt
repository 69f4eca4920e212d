-- What SPECIFICATION 17.3 asks, whole, about the search's own answer and run.
use Rattle.std.specs.Prelude.{◌≡◌, refl, Bool, true, false, ◌||◌, cond, ℕ, ◌*◌, ◌≤◌, ◌<◌, T}
use Rattle.std.proofs.Math.Path.{sym, ap, subst}
use Rattle.std.proofs.Common.{◌∙◌, arith, take_at, ltb-false}
use Rattle.std.proofs.Math.Bool.{not}
use mathlib.Core.List.{List, [], ◌∷◌, ◌++◌}
use Rattle.std.proofs.Math.Dec.{ltb}
use Rattle.std.proofs.Math.ListN.{length, take, drop, length-append, length-drop}
use Rattle.std.proofs.Math.Seq.{drop_at}
use Rattle.refusals.specs.declared.Refusal.{Refusal}
use Rattle.refusals.specs.Refusals.{keep_too_short, queue_too_short, start_not_safe, run_too_short}
use Rattle.systems.specs.Bools.{T_true}
use Rattle.systems.specs.Definitions.{Signature, System, Implementation, Satisfies, Makes, Allows, ShortestDeparture}
use Rattle.systems.specs.Finite.{FiniteSystem, Capping, safe, safe_states, search_run}
use Rattle.systems.proofs.Theorems.{safe_states_largest, implementation_iff, search_empty_exactly, search_shortest, search_bounded, search_implementations, search_made, search_at_least}
use Rattle.bitmaps.specs.Packed.{bytes_for, packed}
use Rattle.search.specs.Outcome.{Outcome, refused, found, search_systems}
use Rattle.demands.specs.Words.{Consistent, LongEnough}
use Rattle.demands.specs.Demands.{SearchDemand}
use Rattle.demands.proofs.Same.{no_departure_same, shortest_same}
use Rattle.demands.proofs.Kept.{keeps}

empty : (w : List ℕ) → length w ≡ 0 → w ≡ []
empty [] e = refl
empty (x ∷ w) e = absurd (omega arith)

not_empty : (w : List ℕ) → 0 < length w → w ≡ [] → ⊥
not_empty w h e = let z : length w ≡ 0 = ap length e in omega arith

some_steps : (w : List ℕ) → (w ≡ [] → ⊥) → 0 < length w
some_steps [] n = absurd (n refl)
some_steps (x ∷ w) n = omega arith

-- the chain of judgements with slices that are long enough and a safe start
record Passed (keep_short run_short : Bool) (o f : Outcome) : Type 0 where
  is : o ≡ f
  keep_long : keep_short ≡ false
  run_long : run_short ≡ false

passed : (b c d e : Bool) (i j k : ℕ) (t : Refusal) (keep kept run : List ℕ) (f : Outcome) → d ≡ false
    → LongEnough (cond b (refused (keep_too_short i) keep run)
    (cond c (refused (queue_too_short j) keep run)
    (cond d (refused t kept run) (cond e (refused (run_too_short k) kept run) f)))).answer
    → Passed b e (cond b (refused (keep_too_short i) keep run)
    (cond c (refused (queue_too_short j) keep run)
    (cond d (refused t kept run) (cond e (refused (run_too_short k) kept run) f)))) f
passed true c d e i j k t keep kept run f z l = absurd (l.keep i refl)
passed false true d e i j k t keep kept run f z l = absurd (l.queue j refl)
passed false false true e i j k t keep kept run f z l = let y : ◌≡◌ {A = ℕ} 0 1 = cc in absurd (omega arith)
passed false false false true i j k t keep kept run f z l = absurd (l.run k refl)
passed false false false false i j k t keep kept run f z l = record { is = refl; keep_long = refl; run_long = refl }

module _ {A : Signature} {M N : System A} {L R : FiniteSystem A} (C : Capping M L) (D : Capping N R)
    (consistent : Consistent M) (keep : List ℕ) (back line : ℕ) (run : List ℕ) where
  steps : List ℕ
  steps = search_run L R

  kept_bytes : List ℕ
  kept_bytes = packed L.size (safe_states L) keep

  start_safe : T (safe L L.start)
  start_safe = (implementation_iff C).0 consistent

  found_is : LongEnough (search_systems L R keep back line run).answer
      → Passed (ltb (length keep) (bytes_for L.size)) (ltb (length run) (length steps))
      (search_systems L R keep back line run) (found steps kept_bytes run)
  unfolding steps kept_bytes search_systems
  found_is l =
      passed (ltb (length keep) (bytes_for L.size))
      (ltb back (L.size * R.size) || ltb line (L.size * R.size)) (not (safe L L.start))
      (ltb (length run) (length steps)) (bytes_for L.size) (L.size * R.size) (length steps)
      (start_not_safe L.start) keep kept_bytes run (found steps kept_bytes run)
      (ap not (T_true (safe L L.start) start_safe)) l

  pub demand_3 : LongEnough (search_systems L R keep back line run).answer
      → SearchDemand M N L.size R.size C.cap D.cap keep run (search_systems L R keep back line run)
  demand_3 l =
      let p = found_is l in
      subst (λ (o : Outcome). SearchDemand M N L.size R.size C.cap D.cap keep run o) (sym p.is)
      (answered p.keep_long (ltb-false (length run) (length steps) p.run_long))
    where
      answered : ltb (length keep) (bytes_for L.size) ≡ false → length steps ≤ length run
          → SearchDemand M N L.size R.size C.cap D.cap keep run (found steps kept_bytes run)
      answered f h = unfold steps kept_bytes in
          let w = search_run L R in
          let taken : w ≡ take (length w) (w ++ drop (length w) run) = sym
          (take_at w (drop (length w) run) (length w) refl) in
          record {
            n = length w;
            answer = refl;
            written = ap length (sym taken);
            long = length-append w (drop (length w) run) ∙ omega (arith, length-drop (length w) run);
            rest = drop_at w (drop (length w) run) (length w) refl;
            satisfied =
                let i = search_implementations C D start_safe in
                (λ z. i.0 (empty w z), λ all. ap length (i.1 all));
            made = λ k. subst (λ (v : List ℕ). (I : Implementation A) × Satisfies I M × Makes I v
                × (Allows N v → ⊥)) taken (search_made C D start_safe (not_empty w k));
            at_least = λ I s v m n.
                let (x, y) = search_at_least C D start_safe I s v m n in
                (some_steps w x, y);
            bounded = search_bounded C D start_safe;
            none_left = λ S q z. no_departure_same (safe_states_largest C) q
                ((search_empty_exactly C D start_safe).0 (empty w z));
            shortest = λ S q k. subst (ShortestDeparture M N S) taken
                (shortest_same (safe_states_largest C) q w (search_shortest C D start_safe (not_empty w k)));
            kept = λ S q. keeps C S q keep f;
          }
