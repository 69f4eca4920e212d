-- The joined record is well formed where it exists and the two records are.
use Rattle.std.specs.Prelude.{◌≡◌, Bool, cond, leb, length, get_or}
use Rattle.std.proofs.Math.Path.{refl, subst, ap}
use Rattle.std.proofs.Common.{sym, ◌∙◌, ⊎_elim, mod-lt, div-lt_iff_lt-mul, zero-add, leb→le, le→leb}
use Rattle.std.proofs.Math.Bool.{true, false}
use mathlib.Core.List.{List, [], ◌∷◌}
use Prim.Native.Nat.{ℕ, suc, ◌+◌, ◌*◌, ◌-◌, ◌/◌, ◌%◌, ◌≤◌, ◌<◌}
use native.Mathlib.Omega.{arith}
use Rattle.std.proofs.Math.Dec.{T, eqb, eqb→eq, eqb_refl}
use Rattle.std.proofs.Math.Arith.{digits_lt}
use Rattle.systems.specs.Tests.{all}
use Rattle.systems.specs.Bools.{and_T, and_both, all_elim, all_intro, any_elim, any_intro, T_dec, T_true, T_false}
use Rattle.bitmaps.specs.BitLaws.{tab_at}
use Rattle.reader_record.specs.declared.Direction.{Direction}
use Rattle.reader_record.specs.declared.Direction.TheVariants.{Unused}
use Rattle.reader_record.specs.declared.Channel.{Channel}
use Rattle.reader_record.specs.declared.Comparison.{Comparison}
use Rattle.reader_record.specs.declared.Constraint.{Constraint}
use Rattle.reader_record.specs.declared.Location.{Location}
use Rattle.reader_record.specs.declared.Assignment.{Assignment}
use Rattle.reader_record.specs.declared.Edge.{Edge}
use Rattle.reader_record.specs.declared.Text.{Text}
use Rattle.limits.specs.Limits.{clock_limit, location_limit, edge_limit, comparison_limit, largest_constant}
use Rattle.reader_record.specs.Record.{no_channel, no_comparison, no_location, no_assignment, no_edge, direction_of, comparison, written_once, assignment, edge, invariant_of, channel}
use Rattle.reader_record.specs.Formed.{agrees, in_invariant, FormedConstraint, FormedAssignments, WellFormed}
use Rattle.joined.specs.Joined.{pair, shifted, both_constraints, both_assignments, matching, joined_location, joined_edge, paired_with, paired, edges_of, joined_edges, has_channel, joined_channel, joined_text, few, CountsFit, counts_fit}
use Rattle.joined.proofs.Lists.{Every, every_append, every_tab, every_at, below, two_left, two_right}
use Rattle.joined.proofs.Assigned.{once_cases, once_again, assignment_missing, assignment_each}

-- the comparisons of a joined constraint: the left's, then the right's by their new clocks
module _ (n : ℕ) (g h : Constraint) where
  pub both_count : (both_constraints n g h).count ≡ g.count + h.count
  unfolding both_constraints
  both_count = refl

  pub both_left : (i : ℕ) → i < g.count → comparison (both_constraints n g h) i ≡ comparison g i
  unfolding both_constraints
  both_left i l = two_left no_comparison (comparison g) (λ i. shifted n (comparison h i)) g.count h.count i l

  pub both_right : (i : ℕ) → i < h.count
      → comparison (both_constraints n g h) (g.count + i) ≡ shifted n (comparison h i)
  unfolding both_constraints
  both_right i l = two_right no_comparison (comparison g) (λ i. shifted n (comparison h i)) g.count h.count i l

  -- what holds of each
  pub both_each : (P : Comparison → Type 0) → ((i : ℕ) → i < g.count → P (comparison g i))
      → ((i : ℕ) → i < h.count → P (shifted n (comparison h i)))
      → (i : ℕ) → i < (both_constraints n g h).count → P (comparison (both_constraints n g h) i)
  both_each P a b i l = ⊎_elim (λ k. rw (both_left i k) (a i k))
      (λ k.
      let m : i - g.count < h.count = omega (arith, both_count) in
      let e : i ≡ g.count + (i - g.count) = omega arith in
      subst (λ (j : ℕ). P (comparison (both_constraints n g h) j)) (sym e)
      (rw (both_right (i - g.count) m) (b (i - g.count) m)))
      (below i g.count)

-- and it is formed, where it is short enough
pub both_formed : (m n : ℕ) (g h : Constraint) → FormedConstraint m g → FormedConstraint n h
    → T (few (both_constraints m g h)) → FormedConstraint (m + n) (both_constraints m g h)
unfolding few shifted
both_formed m n g h a b s = record {
  few = leb→le (both_constraints m g h).count comparison_limit s;
  clock = both_each m g h (λ q. q.clock < m + n) (λ i l. omega (arith, a.clock i l))
      (λ i l. omega (arith, b.clock i l));
  bound = both_each m g h (λ q. q.bound ≤ largest_constant) a.bound b.bound;
}

-- the value is written, and an allowed constant
abbrev Within : Assignment → Type 0
Within c = (c.value ≤ c.largest) × (c.largest ≤ largest_constant)

once_within : (c : Assignment) → c.value ≤ c.largest → c.largest ≤ largest_constant → Within (written_once c)
once_within c h k = once_cases Within c (λ e. (omega arith, omega arith)) (λ e. (omega arith, omega arith))

-- the assignments of two edges joined are formed
pub both_assigned : (m n : ℕ) (a b : Edge) → FormedAssignments m a.assignments
    → FormedAssignments n b.assignments → FormedAssignments (m + n) (both_assignments m n a b)
both_assigned m n a b f g = record {
  clock = λ k e. ⊎_elim (λ h. h)
      (λ h. absurd (subst T (sym e ∙ ap (λ (c : Assignment). c.made) (assignment_missing m n a b k h)) tt))
      (below k (m + n));
  written = λ k. (each k).0;
  allowed = λ k. (each k).1;
}
  where
    each : (k : ℕ) → Within (get_or (both_assignments m n a b) k no_assignment)
    each = assignment_each m n a b Within (λ k. once_within (assignment a k) (f.written k) (f.allowed k))
        (λ k. once_within (assignment b k) (g.written k) (g.allowed k)) (omega arith, omega arith)

-- the pairs of locations
pub pair_lt : (m n p q : ℕ) → p < m → q < n → pair n p q < m * n
unfolding pair
pair_lt m n p q a b = digits_lt a b

module _ (f : ℕ → ℕ) (l r : Text) where
  -- what holds of each edge of the joined record
  with_each : (P : Edge → Type 0) (a : Edge) (bs : List Edge)
      → Every (λ b. T (matching f a b) → P (joined_edge l r a b)) bs → Every P (paired_with l r f a bs)
  unfolding paired_with
  with_each P a [] h = tt
  with_each P a (b ∷ bs) h = go (matching f a b) h.0 (with_each P a bs h.1)
    where
      go : (t : Bool) → (T t → P (joined_edge l r a b)) → Every P (paired_with l r f a bs)
          → Every P (cond t (joined_edge l r a b ∷ paired_with l r f a bs) (paired_with l r f a bs))
      go true k e = (k tt, e)
      go false k e = e

  lists_each : (P : Edge → Type 0) (as' bs : List Edge)
      → Every (λ a. Every (λ b. T (matching f a b) → P (joined_edge l r a b)) bs) as' → Every P (paired l r f as' bs)
  unfolding paired
  lists_each P [] bs h = tt
  lists_each P (a ∷ as') bs h = every_append P (paired_with l r f a bs) (paired l r f as' bs)
      (with_each P a bs h.0) (lists_each P as' bs h.1)

  pub edges_each : (P : Edge → Type 0)
      → ((i k : ℕ) → i < l.edge_count → k < r.edge_count → T (matching f (edge l i) (edge r k))
      → P (joined_edge l r (edge l i) (edge r k)))
      → (i : ℕ) → i < (joined_text f l r).edge_count → P (edge (joined_text f l r) i)
  unfolding joined_text
  edges_each P h i k = every_at P no_edge (paired l r f (edges_of l) (edges_of r))
      (lists_each P (edges_of l) (edges_of r)
      (every_tab (λ a. Every (λ b. T (matching f a b) → P (joined_edge l r a b)) (edges_of r)) (edge l) 0
      l.edge_count (λ i m. rw (zero-add i)
      (every_tab (λ b. T (matching f (edge l i) b) → P (joined_edge l r (edge l i) b)) (edge r) 0
      r.edge_count (λ k n. rw (zero-add k) (h i k m n)))))) i k

  -- the invariant of a pair of locations
  pub invariant_at : (i : ℕ) → i < l.location_count * r.location_count → invariant_of (joined_text f l r) i
      ≡ both_constraints l.clock_count (invariant_of l (i / r.location_count))
      (invariant_of r (i % r.location_count))
  unfolding joined_text joined_location
  invariant_at i h = ap (λ (x : Location). x.invariant)
      (tab_at (joined_location l r) no_location 0 (l.location_count * r.location_count) i h
      ∙ ap (joined_location l r) (zero-add i))

  -- each assignment of a joined edge is written once already
  pub text_once : (i : ℕ) → i < (joined_text f l r).edge_count → (k : ℕ)
      → written_once (assignment (edge (joined_text f l r) i) k) ≡ assignment (edge (joined_text f l r) i) k
  unfolding joined_edge
  text_once i h k = edges_each (λ e. written_once (assignment e k) ≡ assignment e k)
      (λ a b m n q. assignment_each l.clock_count r.clock_count (edge l a) (edge r b)
      (λ c. written_once c ≡ c)
      (λ k. once_again (assignment (edge l a) k)) (λ k. once_again (assignment (edge r b) k))
      (unfold written_once in refl) k) i h

  -- the direction of a channel: the left's where a joined edge has it
  pub direction_at : (c : ℕ) → 0 < c → c ≤ l.channel_count → direction_of (joined_text f l r) c
      ≡ cond (has_channel (joined_edges f l r) c) (direction_of l c) Unused
  unfolding joined_text joined_channel
  direction_at c p q =
      let e : suc (0 + (c - 1)) ≡ c = omega arith in
      let d : 0 + (c - 1) ≡ c - 1 = omega arith in
      ap (λ (x : Channel). x.direction)
      (tab_at (joined_channel l (joined_edges f l r)) no_channel 0 l.channel_count (c - 1) (omega arith))
      ∙ rw (e, d) refl

  pub label_used : (i : ℕ) → i < (joined_text f l r).edge_count
      → T (has_channel (joined_edges f l r) (channel (edge (joined_text f l r) i).label))
  unfolding joined_text has_channel
  label_used i h = any_intro (length (joined_edges f l r))
      (λ k. eqb (channel (get_or (joined_edges f l r) k no_edge).label)
      (channel (get_or (joined_edges f l r) i no_edge).label)) i h
      (eqb_refl (channel (get_or (joined_edges f l r) i no_edge).label))

  pub used_label : (c : ℕ) → T (has_channel (joined_edges f l r) c)
      → (i : ℕ) × (i < (joined_text f l r).edge_count) × (channel (edge (joined_text f l r) i).label ≡ c)
  unfolding joined_text has_channel
  used_label c h =
      let (i, n, e) = any_elim (length (joined_edges f l r))
      (λ k. eqb (channel (get_or (joined_edges f l r) k no_edge).label) c) h in
      (i, n, eqb→eq (channel (get_or (joined_edges f l r) i no_edge).label) c e)

-- what `counts_fit` tests
pub fits_means : (t : Text) → T (counts_fit t) → CountsFit t
unfolding counts_fit
fits_means t h =
    let (a, h1) = and_both (leb t.clock_count clock_limit) _ h in
    let (b, h2) = and_both (leb t.location_count location_limit) _ h1 in
    let (c, h3) = and_both (leb t.edge_count edge_limit) _ h2 in
    let (d, e) = and_both (all t.location_count (λ i. few (invariant_of t i))) _ h3 in
    record {
      clocks = leb→le t.clock_count clock_limit a;
      locations = leb→le t.location_count location_limit b;
      edges = leb→le t.edge_count edge_limit c;
      invariants = all_elim t.location_count (λ i. few (invariant_of t i)) d;
      guards = all_elim t.edge_count (λ i. few (edge t i).guard) e;
    }

pub fits_test : (t : Text) → CountsFit t → T (counts_fit t)
unfolding counts_fit
fits_test t h =
    and_T (leb t.clock_count clock_limit) _ (le→leb t.clock_count clock_limit h.clocks)
    (and_T (leb t.location_count location_limit) _ (le→leb t.location_count location_limit h.locations)
    (and_T (leb t.edge_count edge_limit) _ (le→leb t.edge_count edge_limit h.edges)
    (and_T (all t.location_count (λ i. few (invariant_of t i)))
    (all t.edge_count (λ i. few (edge t i).guard))
    (all_intro t.location_count (λ i. few (invariant_of t i)) h.invariants)
    (all_intro t.edge_count (λ i. few (edge t i).guard) h.guards))))

module _ (f : ℕ → ℕ) (l r : Text) (w : WellFormed l) (x : WellFormed r) (s : T (counts_fit (joined_text f l r))) where
  right_some : 0 < r.location_count
  right_some = omega (arith, x.init)

  pub left_part : (i : ℕ) → i < l.location_count * r.location_count → i / r.location_count
      < l.location_count
  left_part i h = (div-lt_iff_lt-mul right_some).1 h

  pub right_part : (i : ℕ) → i % r.location_count < r.location_count
  right_part i = mod-lt i right_some

  invariant_formed : (i : ℕ) → i < l.location_count * r.location_count
      → FormedConstraint (l.clock_count + r.clock_count) (invariant_of (joined_text f l r) i)
  invariant_formed i h = rw (invariant_at f l r i h)
      (both_formed l.clock_count r.clock_count (invariant_of l (i / r.location_count))
      (invariant_of r (i % r.location_count)) (w.invariant (i / r.location_count) (left_part i h))
      (x.invariant (i % r.location_count) (right_part i))
      (subst (λ (g : Constraint). T (few g)) (invariant_at f l r i h) (short i h)))
    where
      short : (i : ℕ) → i < l.location_count * r.location_count → T (few (invariant_of (joined_text f l r) i))
      short i h = (fits_means (joined_text f l r) s).invariants i (unfold joined_text in h)

  invariant_upper : (i k : ℕ) → i < l.location_count * r.location_count
      → k < (invariant_of (joined_text f l r) i).count
      → T (in_invariant (comparison (invariant_of (joined_text f l r) i) k).sign
      (comparison (invariant_of (joined_text f l r) i) k).bound)
  unfolding shifted
  invariant_upper i k h m =
      let g = invariant_of l (i / r.location_count) in
      let d = invariant_of r (i % r.location_count) in
      subst (λ (g : Constraint). (k : ℕ) → k < g.count
      → T (in_invariant (comparison g k).sign (comparison g k).bound)) (sym (invariant_at f l r i h))
      (both_each l.clock_count g d (λ q. T (in_invariant q.sign q.bound))
      (λ k m. w.upper (i / r.location_count) k (left_part i h) m)
      (λ k m. x.upper (i % r.location_count) k (right_part i) m)) k m

  guard_formed : (i : ℕ) → i < (joined_text f l r).edge_count
      → FormedConstraint (l.clock_count + r.clock_count) (edge (joined_text f l r) i).guard
  unfolding joined_edge
  guard_formed i h = edges_each f l r
      (λ e. T (few e.guard) → FormedConstraint (l.clock_count + r.clock_count) e.guard)
      (λ a b m n q. both_formed l.clock_count r.clock_count (edge l a).guard (edge r b).guard
      (w.guard a m) (x.guard b n)) i h ((fits_means (joined_text f l r) s).guards i h)

  label_known : (i : ℕ) → i < (joined_text f l r).edge_count → (0 < channel (edge (joined_text f l r) i).label)
      × (channel (edge (joined_text f l r) i).label ≤ l.channel_count)
  unfolding joined_edge
  label_known = edges_each f l r (λ e. (0 < channel e.label) × (channel e.label ≤ l.channel_count))
      (λ a b m n q. w.label a m)

  label_agrees : (i : ℕ) → i < (joined_text f l r).edge_count → T (agrees (edge (joined_text f l r) i).label
      (direction_of l (channel (edge (joined_text f l r) i).label)))
  unfolding joined_edge
  label_agrees = edges_each f l r (λ e. T (agrees e.label (direction_of l (channel e.label))))
      (λ a b m n q. w.direction a m)

  text_direction : (i : ℕ) → i < (joined_text f l r).edge_count → T (agrees (edge (joined_text f l r) i).label
      (direction_of (joined_text f l r) (channel (edge (joined_text f l r) i).label)))
  text_direction i h =
      let c = channel (edge (joined_text f l r) i).label in
      let (p, q) = label_known i h in
      let e : direction_of (joined_text f l r) c ≡ direction_of l c = direction_at f l r c p q
      ∙ ap (λ (b : Bool). cond b (direction_of l c) Unused)
      (T_true (has_channel (joined_edges f l r) c) (label_used f l r i h)) in
      subst (λ (d : Direction). T (agrees (edge (joined_text f l r) i).label d)) (sym e) (label_agrees i h)

  text_assigned : (i : ℕ) → i < (joined_text f l r).edge_count
      → FormedAssignments (l.clock_count + r.clock_count) (edge (joined_text f l r) i).assignments
  unfolding joined_edge
  text_assigned = edges_each f l r
      (λ e. FormedAssignments (l.clock_count + r.clock_count) e.assignments)
      (λ a b m n q. both_assigned l.clock_count r.clock_count (edge l a) (edge r b) (w.assigned a m)
      (x.assigned b n))

  text_used : (c : ℕ) → 0 < c → c ≤ l.channel_count → (direction_of (joined_text f l r) c ≡ Unused → ⊥)
      → (i : ℕ) × (i < (joined_text f l r).edge_count) × (channel (edge (joined_text f l r) i).label ≡ c)
  text_used c p q d = ⊎_elim (used_label f l r c)
      (λ n. absurd (d (direction_at f l r c p q ∙ ap (λ (b : Bool). cond b (direction_of l c) Unused)
      (T_false (has_channel (joined_edges f l r) c) n))))
      (T_dec (has_channel (joined_edges f l r) c))

  -- the joined record is well formed
  pub text_formed : WellFormed (joined_text f l r)
  unfolding joined_text joined_edge
  text_formed =
      let t = fits_means (joined_text f l r) s in
      record {
        channels = w.channels;
        clocks = t.clocks;
        locations = t.locations;
        edges = t.edges;
        init = pair_lt l.location_count r.location_count l.init r.init w.init x.init;
        invariant = invariant_formed;
        upper = invariant_upper;
        guard = guard_formed;
        source = edges_each f l r (λ e. e.source < l.location_count * r.location_count)
            (λ a b m n q. pair_lt l.location_count r.location_count (edge l a).source (edge r b).source
            (w.source a m) (x.source b n));
        target = edges_each f l r (λ e. e.target < l.location_count * r.location_count)
            (λ a b m n q. pair_lt l.location_count r.location_count (edge l a).target (edge r b).target
            (w.target a m) (x.target b n));
        direction = text_direction;
        label = label_known;
        assigned = text_assigned;
        used = text_used;
      }
