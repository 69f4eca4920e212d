-- The joined record of two accepted texts is accepted: no 10 and no 11, once its states are within the limit.
use Rattle.std.specs.Prelude.{◌≡◌, refl, Bool, true, false, cond, ℕ, zero, suc, ◌+◌, ◌/◌, ◌%◌, ◌≤◌, ◌<◌, eqb}
use Rattle.std.proofs.Math.Path.{sym}
use Rattle.std.proofs.Common.{subst, ap, ◌∙◌, div-add-mod', arith, le-ltb, ne_eqb, eqb-true}
use Rattle.std.proofs.Math.Dec.{T}
use Rattle.std.proofs.lemmas.Bool.{eqb-false}
use Rattle.systems.specs.Bools.{T_same, and_both}
use Rattle.reader_record.specs.declared.Text.{Text}
use Rattle.limits.specs.Limits.{clock_limit, state_limit}
use Rattle.reader_record.specs.Record.{edge, invariant_of}
use Rattle.clocks.specs.declared.Config.{Config}
use Rattle.clocks.specs.declared.Moves.TheVariants.{One, Two}
use Rattle.clocks.specs.Meaning.{clock_value, invariant, edge_moves, moves, start_of, stands}
use Rattle.clocks.specs.States.{ranges, state_count, config, state_moves, state_invariant, input, too_many, judgement}
use Rattle.clocks.specs.Faults.{Deterministic}
use Rattle.clocks.specs.Accepted.{Accepted}
use Rattle.clocks.proofs.Judgement.{judged_iff, input_known}
use Rattle.clocks.proofs.Edges.{edge_moves_one}
use Rattle.clocks.proofs.Found.{standing_never_two, standing_input}
use Rattle.clocks.proofs.Standing.{start_stands, stands_location, stands_invariant, stands_intro, config_below}
use Rattle.joined.specs.Joined.{pair, joined_edges, has_channel, joined_text, counts_fit}
use Rattle.joined.proofs.Formed.{fits_means, label_used, left_part, right_part, text_formed}
use Rattle.joined.proofs.Inputs.{input_exactly}
use Rattle.joined.proofs.Paired.{PairedSteps}
use Rattle.joined.proofs.PairedLaws.{paired_inputs}
use Rattle.joined.proofs.Together.{Together, invariant_both, start_together}
use Rattle.joined.proofs.Both.{Both, both_one, both_never_two}
use Rattle.joined.proofs.Moves.{gives_iff, moves_both}

-- the two configurations that a configuration of the joined record stands for
unfoldable pub left_of : (l r : Text) → Config → Config
left_of l r u = record { location = u.location / r.location_count; x = u.x; y = u.y; z = u.z }

unfoldable pub right_of : (l r : Text) → Config → Config
right_of l r u = record {
  location = u.location % r.location_count;
  x = clock_value u l.clock_count;
  y = clock_value u (l.clock_count + 1);
  z = clock_value u (l.clock_count + 2);
}

-- a number below 3 is 0, 1 or 2
one_of_three : (g : ℕ → ℕ) (n k : ℕ) → k < 3
    → g (n + k) ≡ cond (eqb k 0) (g n) (cond (eqb k 1) (g (n + 1)) (g (n + 2)))
one_of_three g n k h = go (eqb k 0) refl (eqb k 1) refl
  where
    go : (a : Bool) → eqb k 0 ≡ a → (b : Bool) → eqb k 1 ≡ b
        → g (n + k) ≡ cond a (g n) (cond b (g (n + 1)) (g (n + 2)))
    go true p b q =
        let e = eqb-true k 0 p in
        let i : n + k ≡ n = omega arith in
        ap g i
    go false p true q =
        let e = eqb-true k 1 q in
        let i : n + k ≡ n + 1 = omega arith in
        ap g i
    go false p false q =
        let n0 : k ≡ 0 → ⊥ = eqb-false k 0 p in
        let n1 : k ≡ 1 → ⊥ = eqb-false k 1 q in
        let i : n + k ≡ n + 2 = omega arith in
        ap g i

value_of_fields : (v : Config) (k : ℕ) → clock_value v k ≡ cond (eqb k 0) v.x (cond (eqb k 1) v.y v.z)
unfolding clock_value
value_of_fields v k = refl

pub parts_together : (l r : Text) → l.clock_count + r.clock_count ≤ clock_limit → (u : Config)
    → Together l r u (left_of l r u) (right_of l r u)
unfolding pair left_of right_of
parts_together l r few u = record {
  location = sym (div-add-mod' u.location r.location_count);
  left = λ k h. unfold clock_value in refl;
  right = λ k h. one_of_three (clock_value u) l.clock_count k (omega arith)
      ∙ sym (value_of_fields (right_of l r u) k);
}

module _ (f : ℕ → ℕ) (l r : Text) (a : Accepted l) (b : Accepted r) (p : PairedSteps f l r)
    (s : T (counts_fit (joined_text f l r))) where
  pub few_clocks : l.clock_count + r.clock_count ≤ clock_limit
  unfolding joined_text
  few_clocks = (fits_means (joined_text f l r) s).clocks

  step_below : (c : ℕ) → c ≤ l.channel_count → f c ≤ r.channel_count
  step_below zero h = omega (arith, p.tick)
  step_below (suc c) h = (p.there (suc c) (record { from_one = omega arith; declared = h })).declared

  -- a step of two configurations of the texts, and of one of the joined record that stands for both
  module _ {u v w : Config} (t : Together l r u v w) (h : T (stands l v)) (k : T (stands r w)) where
    pub step_both : (c : ℕ) → c ≤ l.channel_count
        → Both (Together l r) (moves (joined_text f l r) u c) (moves l v c) (moves r w (f c))
    step_both c n = moves_both f l r a.formed b.formed few_clocks t (stands_location l v h)
        (stands_location r w k) p c n

    pub left_never_two : (c : ℕ) → c ≤ l.channel_count → moves l v c ≡ Two → ⊥
    left_never_two c n = standing_never_two l a v h c n

    pub right_never_two : (c : ℕ) → c ≤ l.channel_count → moves r w (f c) ≡ Two → ⊥
    right_never_two c n = standing_never_two r b w k (f c) (step_below c n)

    pub joined_never_two : (c : ℕ) → c ≤ l.channel_count → moves (joined_text f l r) u c ≡ Two → ⊥
    joined_never_two c n = both_never_two (Together l r) (moves (joined_text f l r) u c) (moves l v c) (moves r w (f c))
        (step_both c n) (left_never_two c n) (right_never_two c n)

    pub joined_input : (c : ℕ) → T (input l c) → (x : Config) × (moves (joined_text f l r) u c ≡ One x)
    joined_input c i =
        let (x, e) = standing_input l a v h c i in
        let (y, g) = standing_input r b w k (f c) (paired_inputs p c i) in
        let (z, m, q) = both_one (Together l r) (moves (joined_text f l r) u c) (moves l v c) (moves r w (f c)) x y
        (step_both c (input_known l c i).1) e g in
        (z, m)

  -- an edge of the joined record has each input, since it has a move at the start
  input_had : (c : ℕ) → T (input l c) → T (has_channel (joined_edges f l r) c)
  input_had c i =
      let (u, e) = joined_input (start_together f l r) (start_stands l a.formed) (start_stands r b.formed) c i in
      let (k, n, g, q) = edge_moves_one (joined_text f l r) (start_of (joined_text f l r)) c
      (joined_text f l r).edge_count u (by_edges (start_of (joined_text f l r)) u e) in
      subst (λ (c : ℕ). T (has_channel (joined_edges f l r) c))
      ((gives_iff (invariant_of (joined_text f l r) (edge (joined_text f l r) k).target) (edge (joined_text f l r) k)
      (start_of (joined_text f l r)) c).0 g).1
      (label_used f l r k n)
    where
      by_edges : (v u : Config) → moves (joined_text f l r) v c ≡ One u
          → edge_moves (joined_text f l r) v c (joined_text f l r).edge_count ≡ One u
      by_edges v u e = unfold moves in rw (ne_eqb c 0 (λ z. omega (arith, (input_known l c i).0)), moves) at e

  -- the inputs are the left's
  pub input_same : (c : ℕ) → input (joined_text f l r) c ≡ input l c
  input_same c = T_same (input (joined_text f l r) c) (input l c) (λ i. ((input_exactly f l r c).0 i).0)
      (λ i. (input_exactly f l r c).1 (i, input_had c i))

  -- a configuration of the joined record stands for configurations of the two texts
  pub parts_stand : (u : Config) → T (stands (joined_text f l r) u)
      → T (stands l (left_of l r u)) × T (stands r (right_of l r u))
  parts_stand u h =
      let i = stands_location (joined_text f l r) u h in
      let m = left_in i in
      let n = right_in in
      let (x, y) = and_both (invariant l (left_of l r u)) (invariant r (right_of l r u))
      (subst T (invariant_both f l r a.formed b.formed (parts_together l r few_clocks u) m n)
      (stands_invariant (joined_text f l r) u h)) in
      (stands_intro l (left_of l r u) m x, stands_intro r (right_of l r u) n y)
    where
      left_in : u.location < (joined_text f l r).location_count → (left_of l r u).location < l.location_count
      left_in i = unfold left_of joined_text in left_part f l r a.formed b.formed s u.location i

      right_in : (right_of l r u).location < r.location_count
      right_in = unfold right_of in right_part f l r a.formed b.formed s u.location

  -- no 10 and no 11
  pub text_deterministic : Deterministic (joined_text f l r)
  unfolding state_moves
  text_deterministic = record {
    input_one = λ n c h k i.
        let u = config (ranges (joined_text f l r)) n in
        let (x, y) = parts_stand u (stands_there n h k) in
        joined_input (parts_together l r few_clocks u) x y c ((input_exactly f l r c).0 i).0;
    never_two = λ n c h k i.
        let u = config (ranges (joined_text f l r)) n in
        let (x, y) = parts_stand u (stands_there n h k) in
        joined_never_two (parts_together l r few_clocks u) x y c (channels_left c i);
  }
    where
      stands_there : (n : ℕ) → n < state_count (joined_text f l r) → T (state_invariant (joined_text f l r) n)
          → T (stands (joined_text f l r) (config (ranges (joined_text f l r)) n))
      stands_there n h k = stands_intro (joined_text f l r) (config (ranges (joined_text f l r)) n)
          (config_below (joined_text f l r) (text_formed f l r a.formed b.formed s) n h)
          (unfold state_invariant in k)

      channels_left : (c : ℕ) → c ≤ (joined_text f l r).channel_count → c ≤ l.channel_count
      channels_left c h = unfold joined_text in h

  pub text_accepted : state_count (joined_text f l r) ≤ state_limit → Accepted (joined_text f l r)
  unfolding judgement too_many
  text_accepted n = record {
    formed = text_formed f l r a.formed b.formed s;
    clean = rw (le-ltb state_limit (state_count (joined_text f l r)) n, judgement)
        ((judged_iff (joined_text f l r)).1 text_deterministic);
  }
