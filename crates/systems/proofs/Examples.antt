-- Small systems on which the theorems' hypotheses are met, computed: one clock with uncapped values, capped at 2.
use Rattle.std.specs.Prelude.{◌≡◌, Bool, true, false, not, ◌&&◌, ◌||◌, cond, List, [], ◌∷◌, ◌++◌, ℕ, zero, suc, ◌≤◌, ◌<◌, T, eqb, length}
use Rattle.std.proofs.Math.Path.{refl}
use Rattle.std.proofs.Common.{sym, subst, ap, ◌∙◌, arith, eqb→eq}
use Rattle.std.proofs.Math.Option.{Option, none, some}
use Rattle.systems.specs.Bools.{none_some}
use Rattle.systems.specs.Definitions.{Signature, System, Implementation, Satisfies, Makes, Allows, Departure, ShortestDeparture, Refines}
use Rattle.systems.specs.Finite.{FiniteSystem, State, cap_option, Capping, safe_states, safe, SafeAt, check, widest, Denoted, Widest, search_run}
use Rattle.systems.proofs.Capped.{cap_some}
use Rattle.systems.proofs.Compute.{opened}
use Rattle.systems.proofs.Theorems.{implementation_iff, departure_made_by, departure_as_prefix, search_implementations, search_shortest, check_exactly}

-- one input, press (1), and one output, ring (2)
press_known : (c : ℕ) → T (eqb c 1) → c ≤ 2
press_known c i = let e : c ≡ 1 = eqb→eq c 1 i in omega arith

abbrev bell : Signature
bell = record { channels = 2; input = λ c. eqb c 1; tick_own = tt; input_known = press_known }

-- the values of the clock from 2 on are one
abbrev cap : ℕ → ℕ
cap zero = 0
cap (suc zero) = 1
cap (suc (suc x)) = 2

cap_below : (x : ℕ) → cap x < 3
cap_below zero = omega arith
cap_below (suc zero) = omega arith
cap_below (suc (suc x)) = omega arith

cap_cap : (s : ℕ) → s < 3 → cap s ≡ s
cap_cap zero l = refl
cap_cap (suc zero) l = refl
cap_cap (suc (suc zero)) l = refl
cap_cap (suc (suc (suc s))) l = absurd (omega arith)

-- x <= 1 and x >= 1
abbrev at_most_1 : ℕ → Bool
at_most_1 zero = true
at_most_1 (suc zero) = true
at_most_1 (suc (suc x)) = false

abbrev at_least_1 : ℕ → Bool
at_least_1 zero = false
at_least_1 (suc x) = true

-- One location, with the invariant x <= 1 if there is a deadline, a press that changes nothing, and a ring that needs
-- x >= 1 and sets x to 0, if it rings at all.
abbrev holds : Bool → ℕ → Bool
holds deadline x = not deadline || at_most_1 x

abbrev to : Bool → ℕ → Option ℕ
to deadline x = cond (holds deadline x) (some x) none

abbrev next : Bool → Bool → ℕ → ℕ → Option ℕ
next deadline rings x zero = to deadline (suc x)
next deadline rings x (suc zero) = to deadline x
next deadline rings x (suc (suc zero)) = cond (rings && at_least_1 x) (to deadline 0) none
next deadline rings x (suc (suc (suc c))) = none

-- its laws
to_holds : (d : Bool) (x y : ℕ) → to d x ≡ some y → T (holds d y)
to_holds false x y e = tt
to_holds true zero y e = let k : 0 ≡ y = cc in subst (λ (n : ℕ). T (at_most_1 n)) k tt
to_holds true (suc zero) y e = let k : 1 ≡ y = cc in subst (λ (n : ℕ). T (at_most_1 n)) k tt
to_holds true (suc (suc x)) y e = none_some y e

next_holds : (d r : Bool) (x c y : ℕ) → next d r x c ≡ some y → T (holds d y)
next_holds d r x zero y e = to_holds d (suc x) y e
next_holds d r x (suc zero) y e = to_holds d x y e
next_holds d r x (suc (suc zero)) y e = go (r && at_least_1 x) e
  where
    go : (b : Bool) → cond b (to d 0) none ≡ some y → T (holds d y)
    go true f = to_holds d 0 y f
    go false f = none_some y f
next_holds d r x (suc (suc (suc c))) y e = none_some y e

next_known : (d r : Bool) (x c y : ℕ) → next d r x c ≡ some y → c ≤ 2
next_known d r x zero y e = omega arith
next_known d r x (suc zero) y e = omega arith
next_known d r x (suc (suc zero)) y e = omega arith
next_known d r x (suc (suc (suc c))) y e = none_some y e

start_holds : (d : Bool) → T (holds d 0)
start_holds true = tt
start_holds false = tt

press_moves : (d r : Bool) (x c : ℕ) → T (holds d x) → T (eqb c 1) → next d r x c ≡ some x
press_moves d r x c h i = let e : c ≡ 1 = eqb→eq c 1 i in rw e (T_cond (holds d x) h)
  where
    T_cond : (b : Bool) → T b → ◌≡◌ {A = Option ℕ} (cond b (some x) none) (some x)
    T_cond true t = refl
    T_cond false t = elim t [ ]

-- the same with the clock capped
cap_holds : (d : Bool) (x : ℕ) → holds d (cap x) ≡ holds d x
cap_holds d zero = refl
cap_holds d (suc zero) = refl
cap_holds d (suc (suc x)) = refl

cap_next : (d r : Bool) (x c : ℕ) → cap_option cap (next d r (cap x) c) ≡ cap_option cap (next d r x c)
unfolding cap_option
cap_next d r zero c = refl
cap_next d r (suc zero) c = refl
cap_next d r (suc (suc x)) (suc (suc (suc c))) = refl
cap_next d true (suc (suc x)) (suc (suc zero)) = refl
cap_next d false (suc (suc x)) (suc (suc zero)) = refl
cap_next true r (suc (suc x)) (suc zero) = refl
cap_next false r (suc (suc x)) (suc zero) = refl
cap_next true r (suc (suc x)) zero = refl
cap_next false r (suc (suc x)) zero = refl

module _ (d r : Bool) where
  abbrev clock : System bell
  clock = record {
    State = ℕ;
    start = 0;
    next = next d r;
    holds = holds d;
    next_known = next_known d r;
    start_holds = start_holds d;
    next_holds = λ x c y h e. next_holds d r x c y e;
  }

  abbrev states : FiniteSystem bell
  states = record {
    size = 3;
    start = 0;
    next = λ s c. cap_option cap (next d r s c);
    holds = holds d;
    next_known = λ s c t e. let (y, f, k) = cap_some cap (next d r s c) t e in next_known d r s c y f;
    start_state = (omega arith, start_holds d);
    next_state = λ s c t h e.
        let (y, f, k) = cap_some cap (next d r s c) t e in
        subst (λ (n : ℕ). (n < 3) × T (holds d n)) k (cap_below y, rw (cap_holds d y) (next_holds d r s c y f));
    enabled = λ s c h i. (cap s, cap_move (next d r s c) s (press_moves d r s c h.1 i));
  }
    where
      cap_move : (o : Option ℕ) (x : ℕ) → o ≡ some x → cap_option cap o ≡ some (cap x)
      cap_move o x e = unfold cap_option in rw e refl

  abbrev capping : Capping clock states
  capping = record {
    cap = cap;
    uncap = λ s. s;
    starts = refl;
    onto = cap_cap;
    holding = λ x. (λ h. (cap_below x, rw (cap_holds d x) h), λ h. rw (cap_holds d x) at h.1);
    agree = λ x c l. cap_next d r x c;
  }

-- Prompt rings within the deadline, Loose rings or waits for ever, Silent has the deadline and cannot ring: with the
-- uncapped clock, by state numbers, and capped
abbrev prompt : System bell
prompt = clock true true

abbrev Prompt : FiniteSystem bell
Prompt = states true true

abbrev prompt_capping : Capping prompt Prompt
prompt_capping = capping true true

abbrev loose : System bell
loose = clock false true

abbrev Loose : FiniteSystem bell
Loose = states false true

abbrev loose_capping : Capping loose Loose
loose_capping = capping false true

abbrev silent : System bell
silent = clock true false

abbrev Silent : FiniteSystem bell
Silent = states true false

abbrev silent_capping : Capping silent Silent
silent_capping = capping true false

-- 1. safe states: the state whose invariant is false is not safe; in Silent none is
prompt_safe : safe_states Prompt ≡ true ∷ true ∷ false ∷ []
unfolding opened
prompt_safe = refl

loose_safe : safe_states Loose ≡ true ∷ true ∷ true ∷ []
unfolding opened
loose_safe = refl

silent_safe : safe_states Silent ≡ false ∷ false ∷ false ∷ []
unfolding opened
silent_safe = refl

prompt_start : T (safe Prompt 0)
prompt_start = rw prompt_safe tt

loose_start : T (safe Loose 0)
loose_start = rw loose_safe tt

prompt_implementation : (I : Implementation bell) × Satisfies I prompt
prompt_implementation = (implementation_iff prompt_capping).1 prompt_start

silent_has_none : ((I : Implementation bell) × Satisfies I silent) → ⊥
silent_has_none h = rw silent_safe at ((implementation_iff silent_capping).0 h)

-- Loose itself may tick and ring in one state, so no implementation has its moves
loose_is_none : (I : Implementation bell) → I.start ≡ 0 → ((s c : ℕ) → I.next s c ≡ Loose.next s c) → ⊥
unfolding cap_option
loose_is_none I e same =
    let one = I.next_state 0 0 1 (subst I.state e I.start_state) (same 0 0) in
    I.never_both 1 one 2 2 0 (same 1 0) (omega arith, tt) (same 1 2)

-- 3. the search: Prompt refines Loose; Loose may let two ticks pass, which Prompt cannot
prompt_loose : search_run Prompt Loose ≡ []
unfolding opened
prompt_loose = refl

loose_prompt : search_run Loose Prompt ≡ 0 ∷ 0 ∷ []
unfolding opened
loose_prompt = refl

-- by ticks Silent comes to states that are not safe, and the search follows it there: the right is not pruned
loose_silent : search_run Loose Silent ≡ 0 ∷ 0 ∷ []
unfolding opened
loose_silent = refl

-- 4. tables
prompt_loose_widest : widest Prompt Loose ≡ true ∷ true ∷ true ∷ false ∷ true ∷ true ∷ false ∷ false ∷ false ∷ []
unfolding opened
prompt_loose_widest = refl

-- the pairs of equal numbers with a true invariant; of equal numbers; the start pair alone
abbrev diagonal : ℕ → ℕ → Bool
diagonal s t = eqb s t && holds true s

diagonal_accepted : check Prompt Loose diagonal ≡ true
unfolding opened
diagonal_accepted = refl

false_invariant_refused : check Prompt Loose (λ s t. eqb s t) ≡ false
unfolding opened
false_invariant_refused = refl

start_alone_refused : check Prompt Loose (λ s t. eqb s 0 && eqb t 0) ≡ false
unfolding opened
start_alone_refused = refl

-- what the theorems say of these systems with the uncapped clock
prompt_implements_loose : (I : Implementation bell) → Satisfies I prompt → Satisfies I loose
prompt_implements_loose = (search_implementations prompt_capping loose_capping prompt_start).0 prompt_loose

loose_departs : ShortestDeparture loose prompt (SafeAt loose_capping) (0 ∷ 0 ∷ [])
loose_departs = rw loose_prompt at (search_shortest loose_capping prompt_capping loose_start found)
  where
    found : search_run Loose Prompt ≡ [] → ⊥
    found e = let k : ◌≡◌ {A = ℕ} 2 0 = ap length (sym loose_prompt ∙ e) in absurd (omega arith)

loose_made : (I : Implementation bell) × Satisfies I loose × Makes I (0 ∷ 0 ∷ []) × (Allows prompt (0 ∷ 0 ∷ []) → ⊥)
loose_made = departure_made_by loose_capping prompt_capping loose_start (0 ∷ 0 ∷ []) loose_departs.departure

loose_prefix : (u : List ℕ) × (v : List ℕ) × ((0 ∷ 0 ∷ []) ≡ u ++ v) × Departure loose prompt (SafeAt loose_capping) u
loose_prefix = let (I, S, p, n) = loose_made in departure_as_prefix loose_capping prompt_capping I S (0 ∷ 0 ∷ []) p n

diagonal_refines : Refines prompt loose (SafeAt prompt_capping) (Denoted prompt_capping loose_capping diagonal)
diagonal_refines = ((check_exactly prompt_capping loose_capping diagonal).0 (rw diagonal_accepted tt)).1

-- the widest table has the start pair, so the widest relation holds between the starts
starts_widest : Widest prompt_capping loose_capping 0 0
starts_widest = (omega arith, omega arith, rw prompt_loose_widest tt)
