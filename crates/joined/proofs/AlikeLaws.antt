-- Records that say the same have the same moves, the same states and the same judgement.
use Rattle.std.specs.Prelude.{◌≡◌, Bool, true, false, T, eqb}
use Rattle.std.proofs.Math.Path.{refl, ap}
use Rattle.std.proofs.Common.{sym, subst, ◌∙◌, arith, le-ltb}
use Rattle.std.proofs.Math.Bool.{cond}
use Prim.Native.Nat.{ℕ, zero, suc, ◌≤◌, ◌<◌}
use Rattle.systems.specs.Bools.{all_same}
use Rattle.limits.specs.Limits.{state_limit}
use Rattle.reader_record.specs.declared.Constraint.{Constraint}
use Rattle.reader_record.specs.declared.Assignment.{Assignment}
use Rattle.reader_record.specs.declared.Edge.{Edge}
use Rattle.reader_record.specs.declared.Text.{Text}
use Rattle.reader_record.specs.Record.{comparison, edge, invariant_of}
use Rattle.reader_record.specs.Formed.{WellFormed}
use Rattle.clocks.specs.declared.Config.{Config}
use Rattle.clocks.specs.declared.Ranges.{Ranges}
use Rattle.clocks.specs.declared.Moves.{Moves}
use Rattle.clocks.specs.Meaning.{met, holds, invariant, assigned, after, one_if, gives, edge_move, edge_moves, ticked, tick_move, moves, start_of}
use Rattle.clocks.specs.States.{most, constant_for, largest_in, largest_at, largest, values, ranges, state_count, config, state_moves, state_invariant, too_many, judgement}
use Rattle.clocks.specs.Accepted.{Accepted}
use Rattle.clocks.specs.Faults.{Deterministic}
use Rattle.clocks.proofs.Judgement.{judged_iff, judgement_judged, judgement_few}
use Rattle.clocks.proofs.Standing.{config_below}
use Rattle.joined.proofs.Alike.{AlikeConstraint, AlikeEdge, Alike}

pub same_constraint : (g : Constraint) → AlikeConstraint g g
same_constraint g = record { count = refl; each = λ i h. refl }

pub same_text : (t : Text) → Alike t t
same_text t = record {
  channel_count = refl;
  clock_count = refl;
  location_count = refl;
  edge_count = refl;
  init = refl;
  inputs = λ c. refl;
  invariants = λ i h. same_constraint (invariant_of t i);
  edges = λ i h. record {
    source = refl;
    target = refl;
    guard = same_constraint (edge t i).guard;
    label = refl;
    assignments = λ k. refl;
  };
}

most_same : (n : ℕ) (p q : ℕ → ℕ) → ((i : ℕ) → i < n → p i ≡ q i) → most n p ≡ most n q
unfolding most
most_same zero p q f = refl
most_same (suc n) p q f = rw (f n (omega arith), most_same n p q (λ i h. f i (omega arith)))

module _ (g h : Constraint) (s : AlikeConstraint g h) where
  holds_same : (v : Config) → holds h v ≡ holds g v
  unfolding holds
  holds_same v = rw s.count (all_same g.count (λ i. met v (comparison h i)) (λ i. met v (comparison g i))
      (λ i l. ap (met v) (s.each i l)))

  largest_in_same : (k : ℕ) → largest_in k h ≡ largest_in k g
  unfolding largest_in
  largest_in_same k = rw s.count (most_same g.count (λ i. constant_for k (comparison h i))
      (λ i. constant_for k (comparison g i)) (λ i l. ap (constant_for k) (s.each i l)))

module _ (e d : Edge) (s : AlikeEdge e d) where
  assigned_same : (k v : ℕ) → assigned d k v ≡ assigned e k v
  unfolding assigned
  assigned_same k v = ap (λ (a : Assignment). cond a.made a.value v) (s.assignments k)

  largest_at_same : (k : ℕ) → largest_at k d ≡ largest_at k e
  unfolding largest_at
  largest_at_same k = rw (largest_in_same e.guard d.guard s.guard k, s.assignments k)

  after_same : (v : Config) → after d v ≡ after e v
  unfolding after
  after_same v = rw (assigned_same 0 v.x, assigned_same 1 v.y, assigned_same 2 v.z, s.target)

  gives_same : (g h : Constraint) → AlikeConstraint g h → (v : Config) (c : ℕ) → gives h d v c ≡ gives g e v c
  unfolding gives
  gives_same g h q v c = rw (
    after_same v,
    holds_same g h q (after e v),
    holds_same e.guard d.guard s.guard v,
    s.source,
    s.label,
  )

  edge_move_same : (g h : Constraint) → AlikeConstraint g h → (v : Config) (c : ℕ)
      → edge_move h d v c ≡ edge_move g e v c
  unfolding edge_move
  edge_move_same g h q v c = rw (gives_same g h q v c, after_same v)

module _ (t x : Text) (w : WellFormed t) (s : Alike t x) where
  pub invariant_same : (v : Config) → v.location < t.location_count → invariant x v ≡ invariant t v
  unfolding invariant
  invariant_same v h = holds_same (invariant_of t v.location) (invariant_of x v.location)
      (s.invariants v.location h) v

  edge_moves_same : (v : Config) (c n : ℕ) → n ≤ t.edge_count → edge_moves x v c n ≡ edge_moves t v c n
  unfolding edge_moves
  edge_moves_same v c zero h = refl
  edge_moves_same v c (suc n) h =
      let q = s.edges n h in
      let i : invariant_of x (edge x n).target ≡ invariant_of x (edge t n).target = ap (invariant_of x) q.target in
      rw (
        edge_moves_same v c n (omega arith),
        i,
        edge_move_same (edge t n) (edge x n) q (invariant_of t (edge t n).target) (invariant_of x (edge t n).target)
            (s.invariants (edge t n).target (w.target n h)) v c,
      )

  -- the same moves
  pub moves_same : (v : Config) (c : ℕ) → v.location < t.location_count → moves x v c ≡ moves t v c
  unfolding moves
  moves_same v c h = go (eqb c 0)
    where
      tick : tick_move x v ≡ tick_move t v
      tick = unfold tick_move in ap (λ (b : Bool). one_if b (ticked v)) (invariant_same (ticked v) (unfold ticked in h))

      go : (b : Bool) → ◌≡◌ {A = Moves} (elim b [ true ↦ tick_move x v | false ↦ edge_moves x v c x.edge_count ])
          (elim b [ true ↦ tick_move t v | false ↦ edge_moves t v c t.edge_count ])
      go true = tick
      go false = ap (edge_moves x v c) s.edge_count ∙ edge_moves_same v c t.edge_count (omega arith)

  pub start_same : start_of x ≡ start_of t
  unfolding start_of
  start_same = rw s.init

  -- the same states
  largest_same : (k : ℕ) → largest x k ≡ largest t k
  unfolding largest
  largest_same k =
      let a = most_same t.edge_count (λ i. largest_at k (edge x i)) (λ i. largest_at k (edge t i))
      (λ i h. largest_at_same (edge t i) (edge x i) (s.edges i h) k) in
      let b = most_same t.location_count (λ i. largest_in k (invariant_of x i))
      (λ i. largest_in k (invariant_of t i))
      (λ i h. largest_in_same (invariant_of t i) (invariant_of x i) (s.invariants i h) k) in
      rw (s.edge_count, s.location_count, a, b)

  values_same : (k : ℕ) → values x k ≡ values t k
  unfolding values
  values_same k = rw (largest_same k, s.clock_count)

  pub ranges_same : ranges x ≡ ranges t
  unfolding ranges
  ranges_same = rw (values_same 0, values_same 1, values_same 2)

  pub state_count_same : state_count x ≡ state_count t
  unfolding state_count
  state_count_same = rw (ranges_same, s.location_count)

-- the same judgement, where nothing is found
pub alike_accepted : (t x : Text) → Alike t x → WellFormed x → Accepted t → Accepted x
unfolding judgement too_many
alike_accepted t x s y a = record {
  formed = y;
  clean = rw (
    le-ltb state_limit (state_count x) (omega (arith, state_count_same t x w s, judgement_few t a.clean)),
    judgement,
  ) ((judged_iff x).1 deterministic);
}
  where
    w : WellFormed t
    w = a.formed

    before : Deterministic t
    before = (judged_iff t).0 (judgement_judged t a.clean)

    there : (n : ℕ) → n < state_count x → n < state_count t
    there n h = omega (arith, state_count_same t x w s)

    at_state : (n : ℕ) → config (ranges x) n ≡ config (ranges t) n
    at_state n = ap (λ (r : Ranges). config r n) (ranges_same t x w s)

    moves_there : (n c : ℕ) → n < state_count t → state_moves x n c ≡ state_moves t n c
    moves_there n c h = unfold state_moves in
        ap (λ (v : Config). moves x v c) (at_state n)
        ∙ moves_same t x w s (config (ranges t) n) c (config_below t w n h)

    invariant_there : (n : ℕ) → n < state_count t → state_invariant x n ≡ state_invariant t n
    invariant_there n h = unfold state_invariant in
        ap (invariant x) (at_state n) ∙ invariant_same t x w s (config (ranges t) n) (config_below t w n h)

    deterministic : Deterministic x
    deterministic = record {
      input_one = λ n c h k i.
          let (v, e) = before.input_one n c (there n h) (subst T (invariant_there n (there n h)) k)
          (subst T (s.inputs c) i) in
          (v, moves_there n c (there n h) ∙ e);
      never_two = λ n c h k i e.
          before.never_two n c (there n h) (subst T (invariant_there n (there n h)) k)
          (omega (arith, s.channel_count)) (sym (moves_there n c (there n h)) ∙ e);
    }
