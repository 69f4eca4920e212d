-- Codes 10 and 11 exactly: the lowest state and channel with an input that no edge moves, or with two edges that lead to
-- different states (SPECIFICATION 7.2); and the moves of an accepted text: in
-- each configuration whose invariant holds, edges that give moves by one channel make one move (SPECIFICATION 6.3).
use Rattle.std.proofs.Math.Path.{◌≡◌, refl, subst, ap}
use Rattle.std.proofs.Common.{sym, ◌∙◌, inl, inr, ne_eqb}
use Rattle.std.specs.Prelude.{Result, Ok, Err, ⊤, ◌↔◌, Bool, ℕ, zero, suc, ◌+◌, ◌≤◌, ◌<◌, T}
use Rattle.std.proofs.Math.Logic.{⊎_elim}
use Rattle.std.proofs.Math.Bool.{true, false}
use native.Mathlib.Omega.{arith}
use Rattle.systems.specs.Bools.{T_true, T_dec, T_false}
use Rattle.limits.specs.Limits.{state_limit}
use Rattle.reader_record.specs.declared.Text.{Text}
use Rattle.reader_record.specs.Record.{edge, invariant_of}
use Rattle.reader_record.specs.Formed.{WellFormed}
use Rattle.clocks.specs.declared.Config.{Config}
use Rattle.clocks.specs.declared.Ranges.{Ranges}
use Rattle.clocks.specs.declared.Moves.{Moves}
use Rattle.clocks.specs.declared.Moves.TheVariants.{Nothing, One, Two}
use Rattle.clocks.specs.declared.Flaw.{Flaw}
use Rattle.clocks.specs.declared.Flaw.TheVariants.{TooManyStates, NoMove, TwoEdges}
use Rattle.clocks.specs.Meaning.{invariant, after, one_if, edge_moves, ticked, tick_move, moves, stands}
use Rattle.clocks.specs.States.{ranges, state, config, state_moves, state_invariant, state_count, input, fault, step_fault, state_fault, states_judged, judgement}
use Rattle.clocks.specs.Faults.{Deterministic, edge_gives, GivenByEdges, WithoutMove, TwoWays, Faulty, NoneLower}
use Rattle.clocks.proofs.Edges.{edges_give, edge_moves_one, apart_two, none_nothing}
use Rattle.clocks.proofs.Judgement.{first_clean, clean_first, first_at, input_known, of_steps, not_holding, judged_iff, judged_found, no_move_means, two_edges_means, judgement_exactly, judgement_judged}
use Rattle.clocks.specs.Capped.{capped, capped_moves}
use Rattle.clocks.specs.Accepted.{Accepted}
use Rattle.clocks.proofs.Numbers.{ranges_positive, config_state}
use Rattle.clocks.proofs.Agreement.{moves_capped, invariant_agrees}
use Rattle.clocks.proofs.Standing.{gives_exactly, stands_location, stands_invariant, state_below}

-- the judgements differ
not_no_move : (s c : ℕ) → ◌≡◌ {A = Result ⊤ Flaw} (Err (NoMove s c)) (Ok tt) → ⊥
not_no_move s c e = let z : ◌≡◌ {A = ℕ} 0 1 = cc in omega arith

not_two_edges : (s c : ℕ) → ◌≡◌ {A = Result ⊤ Flaw} (Err (TwoEdges s c)) (Ok tt) → ⊥
not_two_edges s c e = let z : ◌≡◌ {A = ℕ} 0 1 = cc in omega arith

at_equal : (P : ℕ → ℕ → Type 0) (s c u d : ℕ) → s ≡ u → c ≡ d → P u d → P s c
at_equal P s c u d a b h = rw (a, b) h

-- the moves by a channel are those of the edges
channel_moves : (t : Text) (v : Config) (c : ℕ) → 0 < c → moves t v c ≡ edge_moves t v c t.edge_count
unfolding moves
channel_moves t v c h = rw (ne_eqb c 0 (λ e. omega arith), moves)

module _ (t : Text) (w : WellFormed t) where
  -- the label of an edge that gives a move
  gives_label : (v : Config) (c i : ℕ) → i < t.edge_count → T (edge_gives t v c i)
      → (0 < c) × (c ≤ t.channel_count)
  unfolding edge_gives
  gives_label v c i h g =
      let e = ((gives_exactly (invariant_of t (edge t i).target) (edge t i) v c).0 g).1 in
      subst (λ (c : ℕ). (0 < c) × (c ≤ t.channel_count)) e (w.label i h)

  by_edges : (s c : ℕ) → 0 < c → state_moves t s c ≡ edge_moves t (config (ranges t) s) c t.edge_count
  unfolding state_moves
  by_edges s c h = channel_moves t (config (ranges t) s) c h

  tick_once : (v : Config) → moves t v 0 ≡ Two → ⊥
  unfolding moves tick_move
  tick_once v = go (invariant t (ticked v))
    where
      go : (b : Bool) → one_if b (ticked v) ≡ Two → ⊥
      go true e = unfold one_if in let z : ◌≡◌ {A = ℕ} 0 1 = cc in omega arith
      go false e = unfold one_if in let z : ◌≡◌ {A = ℕ} 0 1 = cc in omega arith

  -- what the fault of a step is
  two_ways_fault : (s c : ℕ) → TwoWays t s c → step_fault t s c ≡ Err (TwoEdges s c)
  unfolding step_fault fault
  two_ways_fault s c a =
      let l = gives_label (config (ranges t) s) c a.first a.first_below a.first_gives in
      ap (fault (input t c) s c) (by_edges s c l.0 ∙ apart_two t (config (ranges t) s) c t.edge_count a)

  fault_two_ways : (s c : ℕ) → state_moves t s c ≡ Two → TwoWays t s c
  fault_two_ways s zero e = absurd (tick_once (config (ranges t) s) (unfold state_moves in e))
  fault_two_ways s (suc c) e = subst (GivenByEdges t (config (ranges t) s) (suc c) t.edge_count)
      (sym (by_edges s (suc c) (omega arith)) ∙ e) (edges_give t (config (ranges t) s) (suc c) t.edge_count)

  without_fault : (s c : ℕ) → WithoutMove t s c → step_fault t s c ≡ Err (NoMove s c)
  unfolding step_fault fault
  without_fault s c (i, none) = ap (fault (input t c) s c) (by_edges s c (input_known t c i).0
      ∙ none_nothing t (config (ranges t) s) c t.edge_count none) ∙ rw (T_true (input t c) i) refl

  fault_without : (s c : ℕ) → T (input t c) → state_moves t s c ≡ Nothing → WithoutMove t s c
  fault_without s c i e = (
    i,
    subst (GivenByEdges t (config (ranges t) s) c t.edge_count)
        (sym (by_edges s c (input_known t c i).0) ∙ e) (edges_give t (config (ranges t) s) c t.edge_count),
  )

  -- it is none exactly if there is no such edge
  faulty_not_clean : (s c : ℕ) → step_fault t s c ≡ Ok tt → Faulty t s c → ⊥
  faulty_not_clean s c e f = ⊎_elim (λ n. not_no_move s c (sym (without_fault s c n) ∙ e))
      (λ a. not_two_edges s c (sym (two_ways_fault s c a) ∙ e)) f

  clean_unless : (s c : ℕ) → (Faulty t s c → ⊥) → step_fault t s c ≡ Ok tt
  unfolding step_fault fault
  clean_unless s c n = go (state_moves t s c) refl
    where
      go : (m : Moves) → state_moves t s c ≡ m → fault (input t c) s c m ≡ Ok tt
      go Nothing e = ⊎_elim (λ i. absurd (n (inl (fault_without s c i e)))) (λ o. rw (T_false (input t c) o))
          (T_dec (input t c))
      go (One v) e = refl
      go Two e = absurd (n (inr (fault_two_ways s c e)))

  -- the faults of a state
  faulty_known : (s c : ℕ) → Faulty t s c → c ≤ t.channel_count
  faulty_known s c f = ⊎_elim (λ (i, none). (input_known t c i).1)
      (λ a. (gives_label (config (ranges t) s) c a.first a.first_below a.first_gives).1) f

  state_clean : (s : ℕ) → (T (state_invariant t s) → (d : ℕ) → Faulty t s d → ⊥) → state_fault t s ≡ Ok tt
  state_clean s n = ⊎_elim
      (λ h. of_steps t s h ∙ clean_first (t.channel_count + 1) (step_fault t s) (λ d l. clean_unless s d (n h d)))
      (not_holding t s) (T_dec (state_invariant t s))

  clean_state : (s : ℕ) → state_fault t s ≡ Ok tt → T (state_invariant t s) → (d : ℕ) → Faulty t s d → ⊥
  clean_state s e h d f = faulty_not_clean s d (first_clean (t.channel_count + 1) (step_fault t s)
      (sym (of_steps t s h) ∙ e) d (omega (arith, faulty_known s d f))) f

  -- a judgement that is not clean is the fault of the lowest state and channel
  lower_judged : (s c : ℕ) → NoneLower t s c → Faulty t s c → states_judged t ≡ step_fault t s c
  unfolding states_judged
  lower_judged s c l f =
      let here : state_fault t s ≡ step_fault t s c = of_steps t s l.holds ∙ first_at (t.channel_count + 1)
      (step_fault t s) c (omega (arith, faulty_known s c f)) (λ d k. clean_unless s d (l.lower_channels d k))
      (λ e. faulty_not_clean s c e f) in
      first_at (state_count t) (state_fault t) s l.state
      (λ u k. state_clean u (λ h d. l.lower_states u d k h)) (λ e. faulty_not_clean s c (sym here ∙ e) f) ∙ here

  judged_lower : (j : Result ⊤ Flaw) → (j ≡ Ok tt → ⊥) → states_judged t ≡ j
      → (s : ℕ) × (c : ℕ) × NoneLower t s c × (step_fault t s c ≡ j)
  judged_lower j n e =
      let (s, c, l, k, h, q, (states, channels)) = judged_found t j n e in (
        s,
        c,
        record {
          state = l;
          holds = h;
          lower_states = λ u d b i. clean_state u (states u b) i d;
          lower_channels = λ d b. faulty_not_clean s d (channels d b);
        },
        q,
      )

  two_edges_found : (s c : ℕ) → (states_judged t ≡ Err (TwoEdges s c)) ↔ (NoneLower t s c × TwoWays t s c)
  two_edges_found s c = (
    λ e.
        let (u, d, l, q) = judged_lower (Err (TwoEdges s c)) (not_two_edges s c) e in
        let (a, b, m) = two_edges_means t u d s c q in
        at_equal (λ s c. NoneLower t s c × TwoWays t s c) s c u d a b (l, fault_two_ways u d m),
    λ (l, a). lower_judged s c l (inr a) ∙ two_ways_fault s c a,
  )

  no_move_found : (s c : ℕ) → (states_judged t ≡ Err (NoMove s c)) ↔ (NoneLower t s c × WithoutMove t s c)
  no_move_found s c = (
    λ e.
        let (u, d, l, q) = judged_lower (Err (NoMove s c)) (not_no_move s c) e in
        let (a, b, i, m) = no_move_means t u d s c q in
        at_equal (λ s c. NoneLower t s c × WithoutMove t s c) s c u d a b (l, fault_without u d i m),
    λ (l, n). lower_judged s c l (inl n) ∙ without_fault s c n,
  )

  -- after code 9 (SPECIFICATION 13.4)
  few_and : (j : Result ⊤ Flaw) (P : Type 0) → ((n : ℕ) → Err (TooManyStates n) ≡ j → ⊥) → (states_judged t ≡ j) ↔ P
      → (judgement t ≡ j) ↔ ((state_count t ≤ state_limit) × P)
  few_and j P n i = (
    λ e. let (few, q) = (judgement_exactly t j n).0 e in (few, i.0 q),
    λ (few, p). (judgement_exactly t j n).1 (few, i.1 p),
  )

  -- code 11 exactly, and code 10
  pub two_edges_exactly : (s c : ℕ) → (judgement t ≡ Err (TwoEdges s c))
      ↔ ((state_count t ≤ state_limit) × (NoneLower t s c × TwoWays t s c))
  two_edges_exactly s c = few_and (Err (TwoEdges s c)) (NoneLower t s c × TwoWays t s c)
      (λ n e. let z : ◌≡◌ {A = ℕ} 0 1 = cc in absurd (omega arith)) (two_edges_found s c)

  pub no_move_exactly : (s c : ℕ) → (judgement t ≡ Err (NoMove s c))
      ↔ ((state_count t ≤ state_limit) × (NoneLower t s c × WithoutMove t s c))
  no_move_exactly s c = few_and (Err (NoMove s c)) (NoneLower t s c × WithoutMove t s c)
      (λ n e. let z : ◌≡◌ {A = ℕ} 0 1 = cc in absurd (omega arith)) (no_move_found s c)

-- the moves of any configuration of an accepted text, uncapped: never two, and one for an input
capped_two : (r : Ranges) (m : Moves) → capped_moves r m ≡ Two → m ≡ Two
unfolding capped_moves
capped_two r Nothing e = let z : ◌≡◌ {A = ℕ} 0 1 = cc in absurd (omega arith)
capped_two r (One v) e = let z : ◌≡◌ {A = ℕ} 0 1 = cc in absurd (omega arith)
capped_two r Two e = refl

two_capped : (r : Ranges) → capped_moves r Two ≡ Two
unfolding capped_moves
two_capped r = refl

capped_one : (r : Ranges) (m : Moves) (w : Config) → capped_moves r m ≡ One w → (v : Config) × (m ≡ One v)
unfolding capped_moves
capped_one r Nothing w e = let z : ◌≡◌ {A = ℕ} 0 1 = cc in absurd (omega arith)
capped_one r (One v) w e = (v, refl)
capped_one r Two w e = let z : ◌≡◌ {A = ℕ} 0 1 = cc in absurd (omega arith)

one_capped : (r : Ranges) (v : Config) → capped_moves r (One v) ≡ One (capped r v)
unfolding capped_moves
one_capped r v = refl

module _ (t : Text) (a : Accepted t) (v : Config) (s : T (stands t v)) where
  deterministic : Deterministic t
  deterministic = (judged_iff t).0 (judgement_judged t a.clean)

  holds_there : T (state_invariant t (state (ranges t) v))
  holds_there = subst T (sym (invariant_agrees t a.formed v (stands_location t v s))) (stands_invariant t v s)

  below_there : state (ranges t) v < state_count t
  below_there = state_below t a.formed v (stands_location t v s)

  there : (c : ℕ) → state_moves t (state (ranges t) v) c ≡ moves t (capped (ranges t) v) c
  unfolding state_moves
  there c = ap (λ (u : Config). moves t u c) (config_state (ranges t) (ranges_positive t) v)

  pub standing_never_two : (c : ℕ) → c ≤ t.channel_count → moves t v c ≡ Two → ⊥
  standing_never_two c l e = deterministic.never_two (state (ranges t) v) c below_there holds_there l
      (there c ∙ capped_two (ranges t) (moves t (capped (ranges t) v) c)
      (moves_capped t a.formed v c (stands_location t v s) ∙ ap (capped_moves (ranges t)) e ∙ two_capped (ranges t)))

  pub standing_input : (c : ℕ) → T (input t c) → (u : Config) × (moves t v c ≡ One u)
  standing_input c i =
      let (u, e) = deterministic.input_one (state (ranges t) v) c below_there holds_there i in
      capped_one (ranges t) (moves t v c) (capped (ranges t) u)
      (sym (moves_capped t a.formed v c (stands_location t v s))
      ∙ ap (capped_moves (ranges t)) (sym (there c) ∙ e) ∙ one_capped (ranges t) u)

  -- edges that give moves by one channel make one move: the step leads where each of them does (SPECIFICATION 6.3)
  pub standing_one_move : (c i : ℕ) → i < t.edge_count → T (edge_gives t v c i)
      → moves t v c ≡ One (after (edge t i) v)
  standing_one_move c i l g =
      let (low, high) = gives_label t a.formed v c i l g in
      go (moves t v c) (λ e. standing_never_two c high e) (subst (GivenByEdges t v c t.edge_count)
      (sym (channel_moves t v c low)) (edges_give t v c t.edge_count))
    where
      go : (m : Moves) → (m ≡ Two → ⊥) → GivenByEdges t v c t.edge_count m → m ≡ One (after (edge t i) v)
      go Nothing n h = absurd (h i l g)
      go (One w) n (some, each) = ap One (sym (each i l g))
      go Two n h = absurd (n refl)

-- and a step by a channel is made by an edge
pub by_an_edge : (t : Text) (v : Config) (c : ℕ) (u : Config) → 0 < c → moves t v c ≡ One u
    → (i : ℕ) × (i < t.edge_count) × T (edge_gives t v c i) × (after (edge t i) v ≡ u)
unfolding edge_gives
by_an_edge t v c u h e = edge_moves_one t v c t.edge_count u (sym (channel_moves t v c h) ∙ e)
