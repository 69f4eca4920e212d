-- Laws of implementations of a finite system: which have one, and one that follows advice as long as that is safe.
use Rattle.std.specs.Prelude.{◌≡◌, ◌↔◌, ◌⊎◌, Bool, not, ◌||◌, ℕ, suc, ◌+◌, ◌*◌, ◌/◌, ◌%◌}
use Rattle.std.proofs.Math.Path.{refl, subst, ap}
use Rattle.std.proofs.Common.{sym, ◌∙◌, arith, T_not, eqb→eq}
use Rattle.std.proofs.Math.Logic.{inl, inr, ⊎_elim}
use Rattle.std.proofs.Math.Bool.{true, false, cond}
use Rattle.std.proofs.Math.Option.{Option, none, some}
use Rattle.std.proofs.Math.Dec.{T, eqb, eqb_refl}
use Rattle.std.proofs.Math.Arith.{digits_div, digits_mod}
use Rattle.systems.specs.Bools.{T_true, least_passes, or_cases, or_left, or_right, none_some}
use Rattle.systems.specs.Tests.{least}
use Rattle.systems.specs.Definitions.{Signature, Implementation}
use Rattle.systems.specs.Finite.{FiniteSystem, State, safe, safe_states, own_lands}
use Rattle.systems.proofs.Safe.{SafeRule, safe_state, safe_keeps, safe_largest, own_lands_elim, own_lands_intro}

-- Satisfaction over state numbers, with rules 2 and 3 in one: it matches the system's inputs and the implementation's
-- own steps.
pub record SatisfiesStates {A : Signature} (I : Implementation A) (L : FiniteSystem A) : Type 1 where
  pub Rel : ℕ → ℕ → Type 0
  pub starts : Rel I.start L.start
  pub inputs : (i s c t : ℕ) → Rel i s → T (A.input c) → L.next s c ≡ some t
      → (j : ℕ) × (I.next i c ≡ some j) × Rel j t
  pub own : (i s c j : ℕ) → Rel i s → T (not (A.input c)) → I.next i c ≡ some j
      → (t : ℕ) × (L.next s c ≡ some t) × Rel j t

module _ {A : Signature} (I : Implementation A) (L : FiniteSystem A) (S : SatisfiesStates I L) where
  -- the states that the implementation is related to are safe
  pub related_safe : (i s : ℕ) → I.state i → S.Rel i s → State L s → T (safe L s)
  related_safe i s a r h = safe_largest L P (record { state = λ s p. p.1; keeps = keeps }) s (i, h, a, r)
    where
      P : ℕ → Type 0
      P s = (i : ℕ) × State L s × I.state i × S.Rel i s

      keeps : (s : ℕ) → P s → SafeRule L P s
      keeps s (i, h, a, r) =
          let (c, j, o, e) = I.always_own i a in
          let (t, f, q) = S.own i s c j r o e in
          record {
            inputs = λ d u k g. let (m, n, x) = S.inputs i s d u r k g in
                (m, L.next_state s d u h g, I.next_state i d m a n, x);
            own = (c, t, o, f, (j, L.next_state s c t h f, I.next_state i c j a e, q));
          }

  pub satisfied_safe : T (safe L L.start)
  satisfied_safe = related_safe I.start L.start I.start_state S.starts L.start_state

-- The implementation of a system with a safe start that, at its m-th step, takes its own step `advice m` where that
-- is safe, and else its least safe step of its own. Its states are numbers m * size + s.
module _ {A : Signature} (L : FiniteSystem A) (advice : ℕ → ℕ) where
  -- the safe step of its own that it takes in a safe state s
  unfoldable pub choice : ℕ → ℕ → ℕ
  choice m s = cond (own_lands L (safe_states L) s (advice m)) (advice m)
      (least (own_lands L (safe_states L) s) 0 (suc A.channels))

  unfoldable pub code : ℕ → ℕ → ℕ
  code m s = m * L.size + s

  unfoldable pub age : ℕ → ℕ
  age x = x / L.size

  -- the state that a number stands for: always a safe one
  unfoldable pub place : ℕ → ℕ
  place x = cond (safe L (x % L.size)) (x % L.size) L.start

  unfoldable pub coded : ℕ → Option ℕ → Option ℕ
  coded m none = none
  coded m (some t) = some (code m t)

  unfoldable pub follow : ℕ → ℕ → Option ℕ
  follow x c = cond (A.input c || eqb c (choice (age x) (place x))) (coded (suc (age x)) (L.next (place x) c)) none

  pub choice_lands : (m s : ℕ) → T (safe L s) → T (own_lands L (safe_states L) s (choice m s))
  unfolding choice
  choice_lands m s h = go (own_lands L (safe_states L) s (advice m)) refl
    where
      go : (b : Bool) → own_lands L (safe_states L) s (advice m) ≡ b
          → T (own_lands L (safe_states L) s (cond b (advice m)
          (least (own_lands L (safe_states L) s) 0 (suc A.channels))))
      go true e = subst T (sym e) tt
      go false e =
          let (c, t, o, f, x) = (safe_keeps L s h).own in
          (least_passes (own_lands L (safe_states L) s) 0 (suc A.channels) c (omega arith)
          (omega (arith, L.next_known s c t f)) (own_lands_intro L (safe_states L) s c t o f x)).0

  pub choice_advice : (m s : ℕ) → T (own_lands L (safe_states L) s (advice m)) → choice m s ≡ advice m
  unfolding choice
  choice_advice m s h = rw (T_true (own_lands L (safe_states L) s (advice m)) h)

  pub place_safe : T (safe L L.start) → (x : ℕ) → T (safe L (place x))
  unfolding place
  place_safe h x = go (safe L (x % L.size)) refl
    where
      go : (b : Bool) → safe L (x % L.size) ≡ b → T (safe L (cond b (x % L.size) L.start))
      go true e = subst T (sym e) tt
      go false e = h

  pub place_code : (m s : ℕ) → T (safe L s) → place (code m s) ≡ s
  unfolding place code
  place_code m s h = rw (digits_mod m (safe_state L s h).0, T_true (safe L s) h)

  pub age_code : (m s : ℕ) → T (safe L s) → age (code m s) ≡ m
  unfolding age code
  age_code m s h = digits_div m (safe_state L s h).0

  -- a step is possible exactly when it is an input or the choice, and it leads where the system leads
  pub follow_elim : (x c y : ℕ) → follow x c ≡ some y
      → (t : ℕ) × (L.next (place x) c ≡ some t) × (y ≡ code (suc (age x)) t)
      × (T (A.input c) ⊎ (c ≡ choice (age x) (place x)))
  unfolding follow coded
  follow_elim x c y e =
      let (t, f, g, h) = go (A.input c || eqb c (choice (age x) (place x))) (L.next (place x) c) e in (
        t,
        f,
        g,
        ⊎_elim (λ i. inl i) (λ q. inr (eqb→eq c (choice (age x) (place x)) q))
            (or_cases (A.input c) (eqb c (choice (age x) (place x))) h),
      )
    where
      go : (b : Bool) (o : Option ℕ) → cond b (coded (suc (age x)) o) none ≡ some y
          → (t : ℕ) × (o ≡ some t) × (y ≡ code (suc (age x)) t) × T b
      go true (some t) e = (t, refl, cc, tt)
      go true none e = none_some y e
      go false o e = none_some y e

  pub follow_intro : (x c t : ℕ) → T (A.input c) ⊎ (c ≡ choice (age x) (place x)) → L.next (place x) c ≡ some t
      → follow x c ≡ some (code (suc (age x)) t)
  unfolding follow coded
  follow_intro x c t h e = rw (
    e,
    T_true (A.input c || eqb c (choice (age x) (place x)))
        (⊎_elim (or_left (A.input c) _) (λ q. or_right (A.input c) (eqb c (choice (age x) (place x)))
        (subst (λ (d : ℕ). T (eqb c d)) q (eqb_refl c))) h),
  )

  module _ (start_safe : T (safe L L.start)) where
    pub follow_own : (x c y : ℕ) → follow x c ≡ some y → T (not (A.input c)) → c ≡ choice (age x) (place x)
    follow_own x c y e o = ⊎_elim (λ i. absurd (T_not (A.input c) o i)) (λ q. q) (follow_elim x c y e).3

    unfoldable pub follower : Implementation A
    follower = record {
      state = λ x. Unit {0};
      start = code 0 L.start;
      next = follow;
      start_state = tt;
      next_state = λ x c y a e. tt;
      no_others = λ x c y a e. let (t, f, g, h) = follow_elim x c y e in L.next_known (place x) c t f;
      every_input = λ x c a i.
          let (t, f) = L.enabled (place x) c (safe_state L (place x) (place_safe start_safe x)) i in
          (code (suc (age x)) t, follow_intro x c t (inl i) f);
      never_both = λ x a y c z e (p, o) f. omega (arith, follow_own x 0 y e A.tick_own, follow_own x c z f o);
      always_own = λ x a.
          let (t, o, f, s) = own_lands_elim L (safe_states L) (place x) (choice (age x) (place x))
          (choice_lands (age x) (place x) (place_safe start_safe x)) in (
            choice (age x) (place x),
            code (suc (age x)) t,
            o,
            follow_intro x (choice (age x) (place x)) t (inr refl) f,
          );
    }

    -- a step leads to a safe state
    follow_safe : (x c t : ℕ) → T (A.input c) ⊎ (c ≡ choice (age x) (place x)) → L.next (place x) c ≡ some t
        → T (safe L t)
    follow_safe x c t (inl i) e = (safe_keeps L (place x) (place_safe start_safe x)).inputs c t i e
    follow_safe x c t (inr q) e =
        let (u, o, f, h) = own_lands_elim L (safe_states L) (place x) (choice (age x) (place x))
        (choice_lands (age x) (place x) (place_safe start_safe x)) in
        let k : u ≡ t = cc in
        subst (λ (v : ℕ). T (safe L v)) k h

    pub follower_satisfies : SatisfiesStates follower L
    unfolding follower
    follower_satisfies = record {
      Rel = λ x s. place x ≡ s;
      starts = place_code 0 L.start start_safe;
      inputs = λ x s c t r i e.
          let f : L.next (place x) c ≡ some t = ap (λ (k : ℕ). L.next k c) r ∙ e in (
            code (suc (age x)) t,
            follow_intro x c t (inl i) f,
            place_code (suc (age x)) t (follow_safe x c t (inl i) f),
          );
      own = λ x s c y r o e.
          let (t, f, g, h) = follow_elim x c y e in (
            t,
            ap (λ (k : ℕ). L.next k c) (sym r) ∙ f,
            ap place g ∙ place_code (suc (age x)) t (follow_safe x c t h f),
          );
    }

-- a system has an implementation exactly when its start is safe
pub implementable : {A : Signature} (L : FiniteSystem A)
    → ((I : Implementation A) × SatisfiesStates I L) ↔ T (safe L L.start)
implementable L = (λ h. satisfied_safe h.0 L h.1, λ s. (follower L (λ m. 0) s, follower_satisfies L (λ m. 0) s))
