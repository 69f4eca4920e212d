-- What the scan of a table finds, over uncapped clocks: the lowest pair that fails, by row, then column, and why.
use Rattle.std.specs.Prelude.{◌≡◌, refl, ◌↔◌, Bool, true, false, ◌&&◌, cond, Result, Ok, Err, ⊤}
use Rattle.std.proofs.Common.{sym, ◌∙◌, lt-ltb}
use Rattle.std.proofs.Math.Path.{ap, subst}
use Rattle.std.proofs.Math.Logic.{⊎_elim}
use Rattle.std.proofs.Math.Bool.{not}
use Rattle.std.proofs.Math.Option.{some}
use Prim.Native.Nat.{ℕ, suc, ◌≤◌, ◌<◌}
use native.Mathlib.Omega.{arith}
use Rattle.std.proofs.Math.Dec.{T, T_not}
use Rattle.refusals.specs.declared.Refusal.{Refusal}
use Rattle.refusals.specs.Refusals.{pair_not_allowed, rule_broken}
use Rattle.systems.specs.Bools.{T_dec, and_T, and_both, all_elim, all_intro, any_elim, any_intro, least_passes, imp_elim, imp_intro}
use Rattle.systems.specs.Tests.{any}
use Rattle.systems.specs.Definitions.{Signature, System, StepRules}
use Rattle.systems.specs.Finite.{FiniteSystem, Capping, SafeAt, safe, pruned, step_ok, pair_ok, entry_ok, Denoted}
use Rattle.systems.proofs.Safe.{safe_state}
use Rattle.systems.proofs.Theorems.{pair_exactly, step_exactly}
use Rattle.bitmaps.specs.BitLaws.{less}
use Rattle.tables_check.specs.declared.Fault.{Fault}
use Rattle.tables_check.specs.declared.Fault.TheVariants.{NotAllowed, Broken}
use Rattle.tables_check.specs.Fault.{step, step_fault, picked}
use Rattle.tables_check.specs.Judged.{breaks, least_broken, pair_fault, pairs_judged}
use Rattle.tables_check.proofs.Exact.{pair_fine, judged_lowest}
use Rattle.tables.specs.Outcome.{scanned}
use Rattle.demands.specs.Words.{Passes, LowerPass, PairFails, StepFails}

-- a pair that is set, with the tests of its left and right state and what the steps come to
picks_19 : (a b c : Bool) (f : Result ⊤ Fault) → T a → (T b → T c → ⊥)
    → cond a (cond (b && c) f (Err NotAllowed)) (Ok tt) ≡ Err NotAllowed
picks_19 false b c f x n = absurd x
picks_19 true false c f x n = refl
picks_19 true true false f x n = refl
picks_19 true true true f x n = absurd (n tt tt)

picks_20 : (a b c : Bool) (f : Result ⊤ Fault) → T a → T b → T c
    → cond a (cond (b && c) f (Err NotAllowed)) (Ok tt) ≡ f
picks_20 false b c f x y z = absurd x
picks_20 true false c f x y z = absurd y
picks_20 true true false f x y z = absurd z
picks_20 true true true f x y z = refl

broken_at : (m n : ℕ) → m < n → step_fault n m ≡ Err (Broken (step m))
unfolding step_fault
broken_at m n h = rw (lt-ltb m n h)

-- why a pair of state numbers fails
module _ {A : Signature} (L R : FiniteSystem A) (X : ℕ → ℕ → Bool) (s t : ℕ) where
  abbrev passing : ℕ → Bool
  passing = step_ok A (pruned L) R.next X s t

  data Failure (f : Result ⊤ Fault) : Type 0 where
    not_allowed : T (X s t) → (T (safe L s) → T (R.holds t) → ⊥) → f ≡ Err NotAllowed → Failure f
    broken : T (X s t) → T (safe L s) → T (R.holds t) → (c : ℕ) → (T (passing c) → ⊥)
        → ((d : ℕ) → d < c → T (passing d)) → f ≡ Err (Broken (step c)) → Failure f

  -- some step does not pass: the least one is found
  some_broken : T (any (suc A.channels) (λ c. not (passing c)))
      → (least_broken L R X s t < suc A.channels) × (T (passing (least_broken L R X s t)) → ⊥)
      × ((d : ℕ) → d < least_broken L R X s t → T (passing d))
  unfolding least_broken breaks
  some_broken h =
      let (j, l, p) = any_elim (suc A.channels) (λ c. not (passing c)) h in
      let low : (d : ℕ) → d < suc A.channels → T (not (passing d)) → T (not (passing (least_broken L R X s t)))
      × (least_broken L R X s t ≤ d) = λ d k b. least_passes (λ c. not (passing c)) 0 (suc A.channels) d (omega arith)
      (omega arith) b in
      let (b, m) = low j l p in (
        omega arith,
        T_not (passing (least_broken L R X s t)) b,
        λ d k. ⊎_elim (λ y. y) (λ n. absurd (omega (arith, (low d (omega arith) n).1))) (T_dec (passing d)),
      )

  -- no step does not: each passes
  none_broken : T (not (any (suc A.channels) (λ c. not (passing c)))) → T (pair_ok A (pruned L) R.next X s t)
  unfolding pair_ok
  none_broken h = all_intro (suc A.channels) passing (λ c l. ⊎_elim (λ y. y)
      (λ n. absurd (T_not (any (suc A.channels) (λ c. not (passing c))) h
      (any_intro (suc A.channels) (λ c. not (passing c)) c l n))) (T_dec (passing c)))

  failure : (pair_fault L R X s t ≡ Ok tt → ⊥) → Failure (pair_fault L R X s t)
  unfolding pair_fault entry_ok
  failure n = ⊎_elim (λ x. ⊎_elim (λ a. ⊎_elim (λ b. ⊎_elim (λ y. steps x a b y) (λ y. absurd (n (fine x a b y)))
      (T_dec (any (suc A.channels) (λ c. not (passing c)))))
      (λ b. refused x (λ p q. T_not (R.holds t) b q)) (T_dec (R.holds t)))
      (λ a. refused x (λ p q. T_not (safe L s) a p)) (T_dec (safe L s)))
      (λ x. absurd (n ((pair_fine L R X s t).1
      (imp_intro (X s t) ((safe L s && R.holds t) && pair_ok A (pruned L) R.next X s t)
      (λ y. absurd (T_not (X s t) x y)))))) (T_dec (X s t))
    where
      refused : T (X s t) → (T (safe L s) → T (R.holds t) → ⊥) → Failure (pair_fault L R X s t)
      refused x q = not_allowed x q (picks_19 (X s t) (safe L s) (R.holds t) _ x q)

      steps : T (X s t) → T (safe L s) → T (R.holds t) → T (any (suc A.channels) (λ c. not (passing c)))
          → Failure (pair_fault L R X s t)
      steps x a b y =
          let (l, p, q) = some_broken y in
          broken x a b (least_broken L R X s t) p q
          (picks_20 (X s t) (safe L s) (R.holds t) _ x a b
          ∙ broken_at (least_broken L R X s t) (suc A.channels) l)

      fine : T (X s t) → T (safe L s) → T (R.holds t)
          → T (not (any (suc A.channels) (λ c. not (passing c)))) → pair_fault L R X s t ≡ Ok tt
      fine x a b y = (pair_fine L R X s t).1
          (imp_intro (X s t) ((safe L s && R.holds t) && pair_ok A (pruned L) R.next X s t)
          (λ z. and_T (safe L s && R.holds t) (pair_ok A (pruned L) R.next X s t)
          (and_T (safe L s) (R.holds t) a b) (none_broken y)))

-- the same over uncapped clocks, X being the table by state numbers
module _ {A : Signature} {M N : System A} {L R : FiniteSystem A} (C : Capping M L) (D : Capping N R)
    (X : ℕ → ℕ → Bool) where
  abbrev Q : M.State → N.State → Type 0
  Q = Denoted C D X

  abbrev S : M.State → Type 0
  S = SafeAt C

  -- safe states and targets of the right's moves have numbers in range
  left_inside : (x : M.State) → S x → C.cap x < L.size
  left_inside x h = (safe_state L (C.cap x) h).0

  right_inside : (y : N.State) (c : ℕ) (v : N.State) → T (N.holds y) → N.next y c ≡ some v → D.cap v < R.size
  right_inside y c v h e = ((D.holding v).0 (N.next_holds y c v h e)).0

  -- the test of a step at a pair of the table
  step_denoted : (x : M.State) (y : N.State) (c : ℕ) → Q x y → T (N.holds y)
      → T (step_ok A (pruned L) R.next X (C.cap x) (D.cap y) c) ↔ StepRules M N S Q x y c
  step_denoted x y c (l, k, z) h =
      let i = step_exactly C D X x y c l k in (
        λ t. let r = i.0 t in record {
          rule_1 = λ v o e. let (u, m, s, q) = r.rule_1 v o e in
              (u, m, s, (left_inside u s, right_inside y c v h e, q));
          rule_2 = λ u o e s. let (v, m, q) = r.rule_2 u o e s in
              (v, m, (left_inside u s, right_inside y c v h m, q));
          rule_3 = λ u o e s. let (v, m, q) = r.rule_3 u o e s in
              (v, m, (left_inside u s, right_inside y c v h m, q));
        },
        λ r. i.1 (record {
          rule_1 = λ v o e. let (u, m, s, q) = r.rule_1 v o e in (u, m, s, q.2);
          rule_2 = λ u o e s. let (v, m, q) = r.rule_2 u o e s in (v, m, q.2);
          rule_3 = λ u o e s. let (v, m, q) = r.rule_3 u o e s in (v, m, q.2);
        }),
      )

  -- a number above the channels is no step of either side
  no_step : (x : M.State) (y : N.State) (c : ℕ) → A.channels < c → StepRules M N S Q x y c
  no_step x y c h = record {
    rule_1 = λ v i e. absurd (omega (arith, A.input_known c i));
    rule_2 = λ u o e s. absurd (omega (arith, M.next_known x c u e));
    rule_3 = λ u o e s. absurd (omega (arith, M.next_known x c u e));
  }

  -- a pair of the table that is fine passes
  fine_passes : (x : M.State) (y : N.State) → Q x y → pair_fault L R X (C.cap x) (D.cap y) ≡ Ok tt
      → Passes M N S Q x y
  unfolding entry_ok pair_ok
  fine_passes x y q f =
      let s = C.cap x in
      let t = D.cap y in
      let (a, p) = and_both (safe L s && R.holds t) (pair_ok A (pruned L) R.next X s t)
      (imp_elim (X s t) ((safe L s && R.holds t) && pair_ok A (pruned L) R.next X s t)
      ((pair_fine L R X s t).0 f) q.2) in
      let (b, h) = and_both (safe L s) (R.holds t) a in
      let allowed = (pair_exactly C D x y).1 (b, (q.1, h)) in
      record {
        allowed = allowed;
        rules = λ c. ⊎_elim
            (λ l. (step_denoted x y c q allowed.1).0
            (all_elim (suc A.channels) (step_ok A (pruned L) R.next X s t) p c l))
            (λ l. no_step x y c (omega arith)) (less c (suc A.channels));
      }

  -- the answer of the scan: 19 or 20 for the lowest pair that fails, or the count
  pub data Lowest (width count : ℕ) (answer : Result ℕ Refusal) : Type 0 where
    nineteen : (x : M.State) (y : N.State)
        → PairFails M N (SafeAt C) (Denoted C D X) C.cap D.cap x y
        → answer ≡ Err (pair_not_allowed (C.cap x) (D.cap y)) → Lowest width count answer
    twenty : (x : M.State) (y : N.State) (c : ℕ)
        → StepFails M N (SafeAt C) (Denoted C D X) C.cap D.cap x y c
        → answer ≡ Err (rule_broken width (step c) (C.cap x) (D.cap y)) → Lowest width count answer
    passing_all : ((x : M.State) (y : N.State) → Denoted C D X x y
        → Passes M N (SafeAt C) (Denoted C D X) x y)
        → answer ≡ Ok count → Lowest width count answer

  -- (s, t) is the lowest pair of numbers that fails
  record LowAt (s t : ℕ) : Type 0 where
    row_in : s < L.size
    column_in : t < R.size
    fails : pair_fault L R X s t ≡ Ok tt → ⊥
    earlier_rows : (i j : ℕ) → i < s → j < R.size → pair_fault L R X i j ≡ Ok tt
    earlier_columns : (j : ℕ) → j < t → pair_fault L R X s j ≡ Ok tt
    named : pairs_judged L R X ≡ picked (pair_fault L R X s t) s t (Ok tt)

  module _ (x : M.State) (y : N.State) (w : LowAt (C.cap x) (D.cap y)) where
    lower_pass : LowerPass M N S Q C.cap D.cap x y
    lower_pass u v q l = fine_passes u v q (⊎_elim (λ h. w.earlier_rows (C.cap u) (D.cap v) h q.1)
        (λ (e, h). subst (λ (i : ℕ). pair_fault L R X i (D.cap v) ≡ Ok tt) (sym e) (w.earlier_columns (D.cap v) h))
        l)

    found_at : (width count : ℕ) → Failure L R X (C.cap x) (D.cap y) (pair_fault L R X (C.cap x) (D.cap y))
        → Lowest width count (scanned width count (pairs_judged L R X))
    unfolding scanned picked
    found_at width count (not_allowed a n e) = nineteen x y
        (record {
          pair = (w.row_in, w.column_in, a);
          not_allowed = λ h. let (s, k) = (pair_exactly C D x y).0 h in n s k.1;
          lowest = lower_pass;
        })
        (ap (scanned width count) (w.named ∙ ap (λ (f : Result ⊤ Fault). picked f (C.cap x) (D.cap y) (Ok tt)) e))
    found_at width count (broken a s h c n least e) =
        let q : Q x y = (w.row_in, w.column_in, a) in
        let allowed = (pair_exactly C D x y).1 (s, (w.column_in, h)) in
        twenty x y c
        (record {
          pair = q;
          allowed = allowed;
          broken = λ r. n ((step_denoted x y c q allowed.1).1 r);
          least = λ d l. (step_denoted x y d q allowed.1).0 (least d l);
          lowest = lower_pass;
        })
        (ap (scanned width count) (w.named ∙ ap (λ (f : Result ⊤ Fault). picked f (C.cap x) (D.cap y) (Ok tt)) e))

  pub lowest : (width count : ℕ) → Lowest width count (scanned width count (pairs_judged L R X))
  unfolding scanned
  lowest width count = ⊎_elim
      (λ (e, all). passing_all (λ x y q. fine_passes x y q (all (C.cap x) (D.cap y) q.0 q.1))
      (ap (scanned width count) e))
      (λ low.
      let x = C.uncap low.s in
      let y = D.uncap low.t in
      let at : LowAt low.s low.t = record {
        row_in = low.row_in;
        column_in = low.column_in;
        fails = low.fails;
        earlier_rows = low.earlier_rows;
        earlier_columns = low.earlier_columns;
        named = low.named;
      } in
      let w : LowAt (C.cap x) (D.cap y) = subst (λ (i : ℕ). LowAt i (D.cap y)) (sym (C.onto low.s low.row_in))
      (subst (λ (j : ℕ). LowAt low.s j) (sym (D.onto low.t low.column_in)) at) in
      found_at x y w width count (failure L R X (C.cap x) (D.cap y) w.fails))
      (judged_lowest L R X)
