-- A configuration of the joined record and those of the two texts that it stands for: clocks, invariants, guards,
-- assignments and ticks.
use Rattle.std.proofs.Math.Path.{◌≡◌, refl, sym, ap}
use Rattle.std.proofs.Common.{subst, ◌∙◌, ⊎_elim, arith}
use Rattle.std.specs.Prelude.{Bool, ◌&&◌, cond, ℕ, ◌+◌, ◌*◌, ◌-◌, ◌≤◌, ◌<◌, eqb}
use Rattle.std.proofs.Math.Bool.{true, false}
use Rattle.std.proofs.Math.Dec.{T}
use Rattle.std.proofs.Math.Arith.{digits_div, digits_mod}
use Rattle.systems.specs.Tests.{all}
use Rattle.systems.specs.Bools.{T_same, and_T, and_both, all_elim, all_intro}
use Rattle.limits.specs.Limits.{clock_limit}
use Rattle.reader_record.specs.declared.Comparison.{Comparison}
use Rattle.reader_record.specs.declared.Constraint.{Constraint}
use Rattle.reader_record.specs.declared.Assignment.{Assignment}
use Rattle.reader_record.specs.declared.Edge.{Edge}
use Rattle.reader_record.specs.declared.Text.{Text}
use Rattle.reader_record.specs.Record.{comparison, assignment, invariant_of}
use Rattle.reader_record.specs.Formed.{FormedConstraint, WellFormed}
use Rattle.clocks.specs.declared.Config.{Config}
use Rattle.clocks.specs.Meaning.{clock_value, compares, met, holds, invariant, assigned, after, ticked, start_of}
use Rattle.joined.specs.Joined.{pair, shifted, both_constraints, joined_edge, joined_text}
use Rattle.clocks.proofs.Assigned.{value_after}
use Rattle.clocks.proofs.Also.{equal_parts}
use Rattle.joined.proofs.Lists.{below}
use Rattle.joined.proofs.Assigned.{once_assigned, assignment_left, assignment_right, assignment_missing}
use Rattle.joined.proofs.Formed.{both_count, both_left, both_right, both_each, pair_lt, invariant_at}

-- the location is the pair, and the clocks are the left's, then the right's (SPECIFICATION 18.2, 18.3); nothing is said
-- of clocks that are missing
pub record Together (l r : Text) (u v w : Config) : Type 0 where
  pub location : u.location ≡ pair r.location_count v.location w.location
  pub left : (k : ℕ) → k < l.clock_count → clock_value u k ≡ clock_value v k
  pub right : (k : ℕ) → k < r.clock_count → clock_value u (l.clock_count + k) ≡ clock_value w k

-- the same, with the clocks that neither text has as they are in x. Together alone leaves them open, so that only this
-- fixes the configuration of the joined record
pub record TogetherFrom (l r : Text) (x u v w : Config) : Type 0 where
  pub together : Together l r u v w
  pub missing : (k : ℕ) → l.clock_count + r.clock_count ≤ k → k < clock_limit → clock_value u k ≡ clock_value x k

equal_values : (u v : Config) → u.location ≡ v.location
    → ((k : ℕ) → k < clock_limit → clock_value u k ≡ clock_value v k) → u ≡ v
unfolding clock_value
equal_values u v l h = equal_parts u.location u.x u.y u.z v.location v.x v.y v.z l
    (h 0 (omega arith)) (h 1 (omega arith)) (h 2 (omega arith))

pub together_only : (l r : Text) (x u y v w : Config) → TogetherFrom l r x u v w → TogetherFrom l r x y v w → u ≡ y
together_only l r x u y v w s t = equal_values u y (s.together.location ∙ sym t.together.location) value
  where
    right_value : (k : ℕ) → l.clock_count ≤ k → k < l.clock_count + r.clock_count → clock_value u k
        ≡ clock_value y k
    right_value k m h =
        let e : k ≡ l.clock_count + (k - l.clock_count) = omega arith in
        rw e (s.together.right (k - l.clock_count) (omega arith)
        ∙ sym (t.together.right (k - l.clock_count) (omega arith)))

    value : (k : ℕ) → k < clock_limit → clock_value u k ≡ clock_value y k
    value k h = ⊎_elim (λ m. s.together.left k m ∙ sym (t.together.left k m))
        (λ m. ⊎_elim (right_value k m) (λ n. s.missing k n h ∙ sym (t.missing k n h))
        (below k (l.clock_count + r.clock_count)))
        (below k l.clock_count)

-- a clock after a tick
pub value_ticked : (v : Config) (k : ℕ) → clock_value (ticked v) k ≡ clock_value v k + 1
unfolding clock_value ticked
value_ticked v k = go (eqb k 0) (eqb k 1)
  where
    go : (a b : Bool) → cond a (v.x + 1) (cond b (v.y + 1) (v.z + 1)) ≡ cond a v.x (cond b v.y v.z) + 1
    go true b = refl
    go false true = refl
    go false false = refl

pub after_location : (e : Edge) (v : Config) → (after e v).location ≡ e.target
unfolding after
after_location e v = refl

pub ticked_location : (v : Config) → (ticked v).location ≡ v.location
unfolding ticked
ticked_location v = refl

-- a clock at v after an assignment
abbrev after_one : ℕ → Assignment → ℕ
after_one v q = cond q.made q.value v

-- a clock after a joined edge: as after the left's edge, or after the right's
module _ (l r : Text) (a b : Edge) where
  pub assigned_left : (k v : ℕ) → k < l.clock_count → assigned (joined_edge l r a b) k v ≡ assigned a k v
  unfolding assigned joined_edge
  assigned_left k v h = ap (after_one v) (assignment_left l.clock_count r.clock_count a b k h)
      ∙ once_assigned (assignment a k) v

  pub assigned_right : (k v : ℕ) → k < r.clock_count
      → assigned (joined_edge l r a b) (l.clock_count + k) v ≡ assigned b k v
  unfolding assigned joined_edge
  assigned_right k v h = ap (after_one v) (assignment_right l.clock_count r.clock_count a b k h)
      ∙ once_assigned (assignment b k) v

  pub assigned_missing : (k v : ℕ) → l.clock_count + r.clock_count ≤ k
      → assigned (joined_edge l r a b) k v ≡ v
  unfolding assigned joined_edge
  assigned_missing k v h = ap (after_one v) (assignment_missing l.clock_count r.clock_count a b k h)

module _ (l r : Text) {u v w : Config} (t : Together l r u v w) where
  pub ticked_together : Together l r (ticked u) (ticked v) (ticked w)
  ticked_together = record {
    location = ticked_location u ∙ t.location ∙ sym (rw (ticked_location v, ticked_location w) refl);
    left = λ k h. value_ticked u k ∙ ap (λ (n : ℕ). n + 1) (t.left k h) ∙ sym (value_ticked v k);
    right = λ k h. value_ticked u (l.clock_count + k) ∙ ap (λ (n : ℕ). n + 1) (t.right k h)
        ∙ sym (value_ticked w k);
  }

  -- a joined edge leads where the two edges lead
  pub after_together : l.clock_count + r.clock_count ≤ clock_limit → (a b : Edge)
      → Together l r (after (joined_edge l r a b) u) (after a v) (after b w)
  after_together few a b = record {
    location = after_location (joined_edge l r a b) u ∙ target_pair
        ∙ sym (rw (after_location a v, after_location b w) refl);
    left = λ k h. value_after (joined_edge l r a b) u k (omega arith)
        ∙ assigned_left l r a b k (clock_value u k) h ∙ ap (assigned a k) (t.left k h)
        ∙ sym (value_after a v k (omega arith));
    right = λ k h. value_after (joined_edge l r a b) u (l.clock_count + k) (omega arith)
        ∙ assigned_right l r a b k (clock_value u (l.clock_count + k)) h ∙ ap (assigned b k) (t.right k h)
        ∙ sym (value_after b w k (omega arith));
  }
    where
      target_pair : (joined_edge l r a b).target ≡ pair r.location_count a.target b.target
      target_pair = unfold joined_edge in refl

  -- and leaves the clocks that neither text has as they were
  pub after_together_from : l.clock_count + r.clock_count ≤ clock_limit → (a b : Edge)
      → TogetherFrom l r u (after (joined_edge l r a b) u) (after a v) (after b w)
  after_together_from few a b = record {
    together = after_together few a b;
    missing = λ k m h. value_after (joined_edge l r a b) u k h ∙ assigned_missing l r a b k (clock_value u k) m;
  }

  -- a comparison of the left's, and one of the right's
  pub met_left : (q : Comparison) → q.clock < l.clock_count → met u q ≡ met v q
  unfolding met
  met_left q h = ap (λ (n : ℕ). compares q.sign n q.bound) (t.left q.clock h)

  pub met_right : (q : Comparison) → q.clock < r.clock_count → met u (shifted l.clock_count q) ≡ met w q
  unfolding met shifted
  met_right q h = ap (λ (n : ℕ). compares q.sign n q.bound) (t.right q.clock h)

  -- a joined constraint holds exactly when both do
  pub both_holds : (g h : Constraint) → FormedConstraint l.clock_count g → FormedConstraint r.clock_count h
      → holds (both_constraints l.clock_count g h) u ≡ holds g v && holds h w
  unfolding holds
  both_holds g h a b = T_same _ _
      (λ p. and_T (all g.count (λ i. met v (comparison g i))) (all h.count (λ i. met w (comparison h i)))
      (all_intro g.count (λ i. met v (comparison g i)) (left_met p))
      (all_intro h.count (λ i. met w (comparison h i)) (right_met p)))
      (λ p.
      let (x, y) = and_both (all g.count (λ i. met v (comparison g i)))
      (all h.count (λ i. met w (comparison h i))) p in
      all_intro G.count (λ i. met u (comparison G i)) (both_each l.clock_count g h (λ q. T (met u q))
      (λ i k. rw (met_left (comparison g i) (a.clock i k)) (all_elim g.count (λ i. met v (comparison g i)) x i k))
      (λ i k. rw (met_right (comparison h i) (b.clock i k))
      (all_elim h.count (λ i. met w (comparison h i)) y i k))))
    where
      G : Constraint
      G = both_constraints l.clock_count g h

      left_met : T (all G.count (λ i. met u (comparison G i))) → (i : ℕ) → i < g.count → T (met v (comparison g i))
      left_met p i k = subst T (ap (met u) (both_left l.clock_count g h i k)
          ∙ met_left (comparison g i) (a.clock i k))
          (all_elim G.count (λ i. met u (comparison G i)) p i (omega (arith, both_count l.clock_count g h)))

      right_met : T (all G.count (λ i. met u (comparison G i))) → (i : ℕ) → i < h.count → T (met w (comparison h i))
      right_met p i k = subst T (ap (met u) (both_right l.clock_count g h i k)
          ∙ met_right (comparison h i) (b.clock i k))
          (all_elim G.count (λ i. met u (comparison G i)) p (g.count + i)
          (omega (arith, both_count l.clock_count g h)))

-- the invariant of a pair of locations
module _ (f : ℕ → ℕ) (l r : Text) where
  pub invariant_pair : (p q : ℕ) → p < l.location_count → q < r.location_count
      → invariant_of (joined_text f l r) (pair r.location_count p q)
      ≡ both_constraints l.clock_count (invariant_of l p) (invariant_of r q)
  unfolding pair
  invariant_pair p q h k = invariant_at f l r (p * r.location_count + q)
      (pair_lt l.location_count r.location_count p q h k)
      ∙ rw (digits_div p k, digits_mod p k) refl

  pub invariant_both : WellFormed l → WellFormed r → {u v w : Config} → Together l r u v w
      → v.location < l.location_count → w.location < r.location_count
      → invariant (joined_text f l r) u ≡ invariant l v && invariant r w
  unfolding invariant
  invariant_both x y {u} {v} {w} t h k =
      ap (λ (i : ℕ). holds (invariant_of (joined_text f l r) i) u) t.location
      ∙ ap (λ (g : Constraint). holds g u) (invariant_pair v.location w.location h k)
      ∙ both_holds l r t (invariant_of l v.location) (invariant_of r w.location) (x.invariant v.location h)
      (y.invariant w.location k)

  -- the starts
  pub start_together : Together l r (start_of (joined_text f l r)) (start_of l) (start_of r)
  unfolding start_of joined_text clock_value
  start_together = record {
    location = refl;
    left = λ k h. refl;
    right = λ k h. zeros (eqb (l.clock_count + k) 0) (eqb (l.clock_count + k) 1) (eqb k 0) (eqb k 1);
  }
    where
      zeros : (a b c d : Bool) → ◌≡◌ {A = ℕ} (cond a 0 (cond b 0 0)) (cond c 0 (cond d 0 0))
      zeros a b c d = zero_at a b ∙ sym (zero_at c d)
        where
          zero_at : (a b : Bool) → ◌≡◌ {A = ℕ} (cond a 0 (cond b 0 0)) 0
          zero_at true b = refl
          zero_at false true = refl
          zero_at false false = refl
