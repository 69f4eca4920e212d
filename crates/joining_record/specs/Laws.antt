-- Laws of the lists that the code builds: one item more, and what they say of the joined record.
use Rattle.std.specs.Prelude.{◌≡◌, Bool, true, false, cond, ◌&&◌, List, ℕ, suc, ◌+◌, ◌-◌, ◌*◌, ◌/◌, ◌%◌, ◌≤◌, ◌<◌, ltb, leb, get_or}
use Rattle.std.proofs.Math.Path.{refl, sym, ap, subst}
use Rattle.std.proofs.Common.{◌∙◌, mod-lt, div-lt_iff_lt-mul, zero-add, mul-le-mul, leb→le, ltb-true, leb-true, le-leb, eq-eqb}
use Rattle.std.proofs.Math.Decide.{ℕ_discrete}
use native.Mathlib.Omega.{arith}
use Rattle.std.proofs.Math.Dec.{T, not_T, eqb, eqb→eq}
use Rattle.std.proofs.Math.ListN.{length}
use Rattle.std.proofs.lemmas.Bool.{lt-leb}
use Rattle.systems.specs.Tests.{all, any}
use Rattle.systems.specs.Bools.{all_elim, all_intro, any_elim, any_intro, T_true, T_false}
use Rattle.limits.specs.Limits.{clock_limit, location_limit, edge_limit, comparison_limit}
use Rattle.bitmaps.specs.BitLaws.{tab_at}
use Rattle.reader_record.specs.declared.Name.{Name}
use Rattle.reader_record.specs.declared.Direction.{Direction}
use Rattle.reader_record.specs.declared.Direction.TheVariants.{Unused}
use Rattle.reader_record.specs.declared.Channel.{Channel}
use Rattle.reader_record.specs.declared.Constraint.{Constraint}
use Rattle.reader_record.specs.declared.Location.{Location}
use Rattle.reader_record.specs.declared.Edge.{Edge}
use Rattle.reader_record.specs.declared.Text.{Text}
use Rattle.reader_record.specs.Record.{no_channel, direction_of, edge, invariant_of, channel}
use Rattle.reader_record.specs.Formed.{WellFormed}
use Rattle.clocks.specs.States.{is_input, input}
use Rattle.joined.specs.Joined.{pair, both_constraints, has_channel, joined_edges, joined_channel, joined_location, joined_text, few, CountsFit, counts_fit}
use Rattle.joined.proofs.Alike.{AlikeConstraint, AlikeEdge, Alike}
use Rattle.joined.proofs.Formed.{invariant_at as joined_invariant, pair_lt, fits_means, fits_test}
use Rattle.joining_items.specs.Items.{Nearly, NearEdge, Joinable}
use Rattle.joining_items.specs.Laws.{nearly_alike, below_last}
use Rattle.joining_edges.specs.declared.Edges.{Edges}
use Rattle.joining_edges.specs.Edges.{edge_at, Pairable, Holds}
use Rattle.joining_record.specs.Records.{invariant_at}

-- one number more
pub up_to_next : (P : ℕ → Type 0) (i : ℕ) → ((j : ℕ) → j < i → P j) → P i → (j : ℕ) → j < i + 1 → P j
up_to_next P i h p j l = elim (ℕ_discrete j i) [ yes z ↦ subst P (sym z) p | no z ↦ h j (below_last j i l z) ]

-- the tests of a list of constraints
pub few_true : (g : Constraint) → g.count ≤ comparison_limit → few g ≡ true
unfolding few
few_true g h = le-leb g.count comparison_limit h

pub few_false : (g : Constraint) → comparison_limit < g.count → few g ≡ false
unfolding few
few_false g h = lt-leb g.count comparison_limit h

pub all_yes : (n : ℕ) (p : ℕ → Bool) → ((i : ℕ) → i < n → p i ≡ true) → all n p ≡ true
all_yes n p h = T_true (all n p) (all_intro n p (λ i l. subst T (sym (h i l)) tt))

pub all_not : (n : ℕ) (p : ℕ → Bool) (i : ℕ) → i < n → p i ≡ false → all n p ≡ false
all_not n p i h e = T_false (all n p) (not_T (all n p) (λ t. subst T e (all_elim n p t i h)))

-- the locations of pair i
left_of : (i m w : ℕ) → 0 < w → i < m * w → i / w < m
left_of i m w s h = (div-lt_iff_lt-mul s).1 h

module _ (l r : Text) (p : Pairable l r) where
  pub some_right : 0 < r.location_count
  some_right = omega (arith, p.right.init)

  left_there : (i : ℕ) → i < l.location_count * r.location_count → i / r.location_count < l.location_count
  left_there i h = left_of i l.location_count r.location_count some_right h

  pub left_index : (i : ℕ) → i < l.location_count * r.location_count → i / r.location_count < location_limit
  left_index i h = omega (arith, left_there i h, p.left.locations)

  pub right_index : (i : ℕ) → i % r.location_count < location_limit
  right_index i = omega (arith, mod-lt i some_right, p.right.locations)

  pub pair_joinable : (i : ℕ) → i < l.location_count * r.location_count
      → Joinable l.clock_count (invariant_of l (i / r.location_count))
      (invariant_of r (i % r.location_count))
  pair_joinable i h =
      let a = p.left.invariant (i / r.location_count) (left_there i h) in
      let b = p.right.invariant (i % r.location_count) (mod-lt i some_right) in
      record {
        left_few = a.few;
        right_few = b.few;
        left_clocks = p.left.clocks;
        clocks = λ j k. omega (arith, b.clock j k, p.right.clocks);
      }

  pub start_small : l.init * r.location_count + r.init < location_limit
  start_small = unfold pair in omega (
    arith,
    p.locations,
    pair_lt l.location_count r.location_count l.init r.init p.left.init p.right.init,
  )

-- the pairs of two texts are far below the largest number
pub pairs_small : (l r : Text) → WellFormed l → WellFormed r
    → l.location_count * r.location_count ≤ location_limit * location_limit
pairs_small l r a b = mul-le-mul a.locations b.locations

-- the invariant of pair i
pub pair_near : (l r : Text) (i : ℕ) (g : Constraint)
    → Nearly (both_constraints l.clock_count (invariant_of l (i / r.location_count))
    (invariant_of r (i % r.location_count))) g
    → Nearly (joined_location l r i).invariant g
unfolding joined_location
pair_near l r i g h = h

-- the channels
module _ (xs : List Edge) (es : Edges) (h : Holds xs es) (c : ℕ) where
  pub has_yes : (i : ℕ) → i < es.count → channel (edge_at es.list i).label ≡ c → has_channel xs c ≡ true
  unfolding has_channel
  has_yes i l e =
      let k : i < length xs = omega (arith, h.count) in
      T_true (any (length xs) (λ i. eqb (channel (edge_at xs i).label) c))
      (any_intro (length xs) (λ i. eqb (channel (edge_at xs i).label) c) i k
      (subst T (sym (eq-eqb (channel (edge_at xs i).label) c (ap channel (sym (h.each i k).label) ∙ e))) tt))

  pub has_not : ((i : ℕ) → i < es.count → channel (edge_at es.list i).label ≡ c → ⊥) → has_channel xs c ≡ false
  unfolding has_channel
  has_not n = T_false (any (length xs) (λ i. eqb (channel (edge_at xs i).label) c))
      (not_T (any (length xs) (λ i. eqb (channel (edge_at xs i).label) c)) (λ t.
      let (i, k, e) = any_elim (length xs) (λ i. eqb (channel (edge_at xs i).label) c) t in
      n i (omega (arith, h.count, k)) (ap channel (h.each i k).label ∙ eqb→eq (channel (edge_at xs i).label) c e)))

abbrev channel_of : Name → Direction → Channel
channel_of n d = record { name = n; direction = d }

pub channel_joined : (l : Text) (xs : List Edge) (i : ℕ) (k : Channel) (used : Bool) → used ≡ has_channel xs (suc i)
    → k.name ≡ (get_or l.channels i no_channel).name
    → k.direction ≡ cond used (get_or l.channels i no_channel).direction Unused
    → k ≡ joined_channel l xs i
unfolding joined_channel
channel_joined l xs i k used e n d =
    ap (λ (m : Name). channel_of m k.direction) n
    ∙ ap (channel_of (get_or l.channels i no_channel).name)
    (d ∙ ap (λ (b : Bool). cond b (get_or l.channels i no_channel).direction Unused) e)

-- the directions of two records at the channels are equal: so are their inputs
inputs_same : (n c : ℕ) (d e : Direction) → (0 < c → c ≤ n → d ≡ e)
    → (ltb 0 c && leb c n) && is_input d ≡ (ltb 0 c && leb c n) && is_input e
inputs_same n c d e h = go (ltb 0 c) (leb c n) refl refl
  where
    go : (x y : Bool) → ltb 0 c ≡ x → leb c n ≡ y → (x && y) && is_input d ≡ (x && y) && is_input e
    go true true p q = ap is_input (h (ltb-true 0 c p) (leb-true c n q))
    go true false p q = refl
    go false y p q = refl

few_same : (g h : Constraint) → Nearly g h → few h ≡ few g
unfolding few
few_same g h n = ap (λ (k : ℕ). leb k comparison_limit) n.count

few_count : (g : Constraint) → T (few g) → g.count ≤ comparison_limit
unfolding few
few_count g h = leb→le g.count comparison_limit h

near_alike : (e d : Edge) → NearEdge e d → e.guard.count ≤ comparison_limit → AlikeEdge e d
near_alike e d n h = record {
  source = n.source;
  target = n.target;
  guard = nearly_alike e.guard d.guard n.guard h;
  label = n.label;
  assignments = n.assignments;
}

true_not : {b : Bool} → b ≡ true → b ≡ false → ⊥
true_not t f = subst T f (subst T (sym t) tt)

module _ (f : ℕ → ℕ) (l r : Text) where
  pub fits_true : CountsFit (joined_text f l r) → counts_fit (joined_text f l r) ≡ true
  fits_true s = T_true (counts_fit (joined_text f l r)) (fits_test (joined_text f l r) s)

  -- a limit is exceeded
  not_fits : (CountsFit (joined_text f l r) → ⊥) → counts_fit (joined_text f l r) ≡ false
  not_fits n = T_false (counts_fit (joined_text f l r))
      (not_T (counts_fit (joined_text f l r)) (λ t. n (fits_means (joined_text f l r) t)))

  pub over_clocks : clock_limit < l.clock_count + r.clock_count → counts_fit (joined_text f l r) ≡ false
  over_clocks h = not_fits (λ k. unfold joined_text in absurd (omega (arith, k.clocks)))

  pub over_locations : location_limit < l.location_count * r.location_count
      → counts_fit (joined_text f l r) ≡ false
  over_locations h = not_fits (λ k. unfold joined_text in absurd (omega (arith, k.locations)))

  pub over_edges : edge_limit < length (joined_edges f l r) → counts_fit (joined_text f l r) ≡ false
  over_edges h = not_fits (λ k. unfold joined_text in absurd (omega (arith, k.edges)))

  location_at : (i : ℕ) → i < l.location_count * r.location_count
      → invariant_of (joined_text f l r) i ≡ (joined_location l r i).invariant
  unfolding joined_location
  location_at i h = joined_invariant f l r i h

  edge_is : (i : ℕ) → edge (joined_text f l r) i ≡ edge_at (joined_edges f l r) i
  unfolding joined_text
  edge_is i = refl

  -- the locations and the edges that the code builds
  module _ (list : List Location) (near : (i : ℕ) → i < l.location_count * r.location_count
      → Nearly (joined_location l r i).invariant (invariant_at list i))
      (es : Edges) (holds : Holds (joined_edges f l r) es) where
    invariant_few : (i : ℕ) → i < l.location_count * r.location_count
        → few (invariant_at list i) ≡ few (invariant_of (joined_text f l r) i)
    invariant_few i h = few_same (joined_location l r i).invariant (invariant_at list i) (near i h)
        ∙ ap few (sym (location_at i h))

    guard_few : (i : ℕ) → i < es.count → few (edge_at es.list i).guard ≡ few (edge (joined_text f l r) i).guard
    guard_few i h =
        few_same (edge_at (joined_edges f l r) i).guard (edge_at es.list i).guard
        (holds.each i (omega (arith, holds.count))).guard
        ∙ ap (λ (e : Edge). few e.guard) (sym (edge_is i))

    pub over_invariants : all (l.location_count * r.location_count) (λ i. few (invariant_at list i)) ≡ false
        → counts_fit (joined_text f l r) ≡ false
    over_invariants e = not_fits (λ k.
        true_not (all_yes (l.location_count * r.location_count) (λ i. few (invariant_at list i))
        (λ i h. invariant_few i h ∙ T_true _ (k.invariants i (unfold joined_text in h)))) e)

    pub over_guards : all es.count (λ i. few (edge_at es.list i).guard) ≡ false
        → counts_fit (joined_text f l r) ≡ false
    over_guards e = not_fits (λ k.
        true_not (all_yes es.count (λ i. few (edge_at es.list i).guard)
        (λ i h. guard_few i h ∙ T_true _ (k.guards i (unfold joined_text in omega (arith, holds.count))))) e)

    -- and with few comparisons everywhere it is within the limits
    pub built_fits : Pairable l r
        → all (l.location_count * r.location_count) (λ i. few (invariant_at list i)) ≡ true
        → all es.count (λ i. few (edge_at es.list i).guard) ≡ true → CountsFit (joined_text f l r)
    built_fits p a b = record {
      clocks = unfold joined_text in p.clocks;
      locations = unfold joined_text in p.locations;
      edges = unfold joined_text in omega (arith, holds.count, holds.few);
      invariants = λ i h. few_invariant i (unfold joined_text in h);
      guards = λ i h. few_guard i (unfold joined_text in h);
    }
      where
        few_invariant : (i : ℕ) → i < l.location_count * r.location_count
            → T (few (invariant_of (joined_text f l r) i))
        few_invariant i h = subst T (invariant_few i h)
            (all_elim (l.location_count * r.location_count) (λ i. few (invariant_at list i))
            (subst T (sym a) tt) i h)

        few_guard : (i : ℕ) → i < length (joined_edges f l r) → T (few (edge (joined_text f l r) i).guard)
        few_guard i h =
            let k : i < es.count = omega (arith, holds.count) in
            subst T (guard_few i k)
            (all_elim es.count (λ i. few (edge_at es.list i).guard) (subst T (sym b) tt) i k)

    -- and then the record says the same
    module _ (s : CountsFit (joined_text f l r)) (channels : List Channel)
        (each : (i : ℕ) → i < l.channel_count → get_or channels i no_channel ≡ joined_channel l (joined_edges f l r) i)
        (clocks : List Name) where
      direction_same : (c : ℕ) → 0 < c → c ≤ l.channel_count
          → (get_or channels (c - 1) no_channel).direction ≡ direction_of (joined_text f l r) c
      unfolding joined_text
      direction_same c a b =
          ap (λ (k : Channel). k.direction)
          (each (c - 1) (omega arith)
          ∙ sym (tab_at (joined_channel l (joined_edges f l r)) no_channel 0 l.channel_count (c - 1) (omega arith)
          ∙ ap (joined_channel l (joined_edges f l r)) (zero-add (c - 1))))

      invariant_alike : (i : ℕ) → i < l.location_count * r.location_count
          → AlikeConstraint (invariant_of (joined_text f l r) i) (invariant_at list i)
      invariant_alike i h =
          subst (λ (g : Constraint). AlikeConstraint g (invariant_at list i)) (sym (location_at i h))
          (nearly_alike (joined_location l r i).invariant (invariant_at list i) (near i h)
          (few_count (joined_location l r i).invariant
          (subst (λ (g : Constraint). T (few g)) (location_at i h) (s.invariants i (unfold joined_text in h)))))

      edge_alike : (i : ℕ) → i < length (joined_edges f l r)
          → AlikeEdge (edge (joined_text f l r) i) (edge_at es.list i)
      edge_alike i h =
          subst (λ (e : Edge). AlikeEdge e (edge_at es.list i)) (sym (edge_is i))
          (near_alike (edge_at (joined_edges f l r) i) (edge_at es.list i) (holds.each i h)
          (few_count (edge_at (joined_edges f l r) i).guard
          (subst (λ (e : Edge). T (few e.guard)) (edge_is i) (s.guards i (unfold joined_text in h)))))

      pub built_alike : Alike (joined_text f l r) (record {
        channels = channels;
        channel_count = l.channel_count;
        clocks = clocks;
        clock_count = l.clock_count + r.clock_count;
        locations = list;
        location_count = l.location_count * r.location_count;
        init = l.init * r.location_count + r.init;
        edges = es.list;
        edge_count = es.count;
      })
      built_alike = record {
        channel_count = unfold joined_text in refl;
        clock_count = unfold joined_text in refl;
        location_count = unfold joined_text in refl;
        edge_count = unfold joined_text in holds.count;
        init = unfold joined_text pair in refl;
        inputs = λ c. unfold input in unfold joined_text in inputs_same l.channel_count c
            (get_or channels (c - 1) no_channel).direction (direction_of (joined_text f l r) c) (direction_same c);
        invariants = λ i h. invariant_alike i (unfold joined_text in h);
        edges = λ i h. edge_alike i (unfold joined_text in h);
      }

      pub built_names : (i : ℕ) → i < l.channel_count
          → (get_or channels i no_channel).name ≡ (get_or l.channels i no_channel).name
      built_names i h = unfold joined_channel in ap (λ (k : Channel). k.name) (each i h)
