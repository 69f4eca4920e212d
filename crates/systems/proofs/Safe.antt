-- Laws of the computed safe states: they are the largest set of state numbers that meets the rule.
use Rattle.std.specs.Prelude.{◌≡◌, Bool, not, List, ℕ, suc, T}
use Rattle.std.proofs.Math.Option.{some}
use Rattle.std.proofs.Common.{arith}
use Rattle.systems.specs.Bools.{and_T, and_both, all_elim, all_intro, any_elim, any_intro, imp_elim, imp_intro, stays_elim, stays_intro, lands_elim, lands_intro}
use Rattle.systems.specs.Tests.{all, any, stays, lands, at, table}
use Rattle.systems.specs.Definitions.{Signature}
use Rattle.systems.specs.Finite.{FiniteSystem, State, input_stays, own_lands, safe_test, safe_states, safe}
use Rattle.systems.proofs.Sieve.{Rule, stage_keeps, stage_within, stage_largest, at_table, ones_table}

module _ {A : Signature} (L : FiniteSystem A) where
  -- the rule for a set of safe states: every input move stays in it, and a step of the system's own stays in it
  pub record SafeRule (P : ℕ → Type 0) (s : ℕ) : Type 0 where
    pub inputs : (c t : ℕ) → T (A.input c) → L.next s c ≡ some t → P t
    pub own : (c : ℕ) × (t : ℕ) × T (not (A.input c)) × (L.next s c ≡ some t) × P t

  pub own_lands_elim : (X : List Bool) (s c : ℕ) → T (own_lands L X s c)
      → (t : ℕ) × T (not (A.input c)) × (L.next s c ≡ some t) × T (at X t)
  unfolding own_lands
  own_lands_elim X s c h =
      let (o, l) = and_both (not (A.input c)) (lands (at X) (L.next s c)) h in
      let (t, e, x) = lands_elim (at X) (L.next s c) l in
      (t, o, e, x)

  pub own_lands_intro : (X : List Bool) (s c t : ℕ) → T (not (A.input c)) → L.next s c ≡ some t → T (at X t)
      → T (own_lands L X s c)
  unfolding own_lands
  own_lands_intro X s c t o e x = and_T (not (A.input c)) (lands (at X) (L.next s c)) o
      (lands_intro (at X) (L.next s c) t e x)

  pub safe_sound : (X : List Bool) (s : ℕ) → T (safe_test L X s) → SafeRule (λ j. T (at X j)) s
  unfolding safe_test input_stays
  safe_sound X s h =
      let (a, b) = and_both (all (suc A.channels) (input_stays L X s))
      (any (suc A.channels) (own_lands L X s)) h in
      let (c, l, k) = any_elim (suc A.channels) (own_lands L X s) b in
      record {
        inputs = λ c t i e. stays_elim (at X) (L.next s c) t (imp_elim (A.input c) (stays (at X) (L.next s c))
            (all_elim (suc A.channels) (input_stays L X s) a c (omega (arith, A.input_known c i))) i) e;
        own = let r = own_lands_elim X s c k in (c, r.0, r.1, r.2, r.3);
      }

  pub safe_complete : (X : List Bool) (s : ℕ) → SafeRule (λ j. T (at X j)) s → T (safe_test L X s)
  unfolding safe_test input_stays
  safe_complete X s h =
      let (c, t, o, e, x) = h.own in
      and_T (all (suc A.channels) (input_stays L X s)) (any (suc A.channels) (own_lands L X s))
      (all_intro (suc A.channels) (input_stays L X s)
      (λ d l. imp_intro (A.input d) (stays (at X) (L.next s d))
      (λ i. stays_intro (at X) (L.next s d) (λ u f. h.inputs d u i f))))
      (any_intro (suc A.channels) (own_lands L X s) c (omega (arith, L.next_known s c t e))
      (own_lands_intro X s c t o e x))

  abbrev pub safe_rule : Rule
  safe_rule = record {
    Keep = SafeRule;
    mono = λ P Q sub s h. record {
      inputs = λ c t i e. sub t (h.inputs c t i e);
      own = (h.own.0, h.own.1, h.own.2, h.own.3, sub h.own.1 h.own.4);
    };
    keep = safe_test L;
    sound = safe_sound;
    complete = safe_complete;
  }

  pub safe_state : (s : ℕ) → T (safe L s) → State L s
  unfolding safe_states
  safe_state s h = (at_table L.size L.holds s).0
      (stage_within (safe_test L) (table L.size L.holds) L.size s h)

  pub safe_keeps : (s : ℕ) → T (safe L s) → SafeRule (λ t. T (safe L t)) s
  unfolding safe_states
  safe_keeps s h = stage_keeps safe_rule (table L.size L.holds) L.size (ones_table L.size L.holds) s h

  -- a set of states that meets the rule
  pub record SafeNumbers (P : ℕ → Type 0) : Type 0 where
    pub state : (s : ℕ) → P s → State L s
    pub keeps : (s : ℕ) → P s → SafeRule P s

  -- the safe states are the largest such set
  pub safe_is_safe : SafeNumbers (λ s. T (safe L s))
  safe_is_safe = record { state = safe_state; keeps = safe_keeps }

  pub safe_largest : (P : ℕ → Type 0) → SafeNumbers P → (s : ℕ) → P s → T (safe L s)
  unfolding safe_states
  safe_largest P h = stage_largest safe_rule P (table L.size L.holds)
      (λ s p. (at_table L.size L.holds s).1 (h.state s p)) h.keeps L.size
