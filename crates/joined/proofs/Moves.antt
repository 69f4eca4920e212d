-- The moves of the joined record are the moves of both texts made as one.
use Rattle.std.specs.Prelude.{◌≡◌, ◌↔◌, true, false, ◌&&◌, cond, eqb}
use Rattle.std.proofs.Math.Path.{refl, sym, subst, ap}
use Rattle.std.proofs.Common.{◌∙◌, zero-add, arith, eqb→eq}
use Rattle.std.proofs.Math.Bool.{Bool}
use Prim.Native.Nat.{ℕ, zero, suc, ◌+◌, ◌/◌, ◌%◌, ◌≤◌, ◌<◌}
use Rattle.std.proofs.Math.Dec.{T}
use Rattle.std.proofs.Math.Arith.{digits_div, digits_mod}
use borrow.Author.Tests.{eq-eqb, ne_eqb}
use Rattle.systems.specs.Bools.{T_same, and_T, and_both}
use Rattle.limits.specs.Limits.{clock_limit}
use Rattle.reader_record.specs.declared.Constraint.{Constraint}
use Rattle.reader_record.specs.declared.Edge.{Edge}
use Rattle.reader_record.specs.declared.Text.{Text}
use Rattle.reader_record.specs.Record.{edge, invariant_of, channel}
use Rattle.reader_record.specs.Formed.{FormedConstraint, WellFormed}
use Rattle.clocks.specs.declared.Config.{Config}
use Rattle.clocks.specs.declared.Moves.{Moves}
use Rattle.clocks.specs.declared.Moves.TheVariants.{Nothing}
use Rattle.clocks.specs.Meaning.{holds, invariant, after, one_if, gives, edge_move, edge_moves, ticked, tick_move, moves}
use Rattle.joined.specs.Joined.{pair, matching, joined_edge, edges_of, joined_text}
use Rattle.joined.proofs.Lists.{every_tab}
use Rattle.joined.proofs.Sums.{sum, move_of, edges_sum, pair_move, joined_sum}
use Rattle.joined.proofs.Both.{Both, both_right_sum, both_left_sum, both_nothing, both_if, both_weaker}
use Rattle.joined.proofs.Paired.{PairedSteps}
use Rattle.joined.proofs.Together.{Together, TogetherFrom, together_only, ticked_location, ticked_together, after_together, after_together_from, both_holds, invariant_pair, invariant_both}

-- when an edge gives a move
pub gives_iff : (g : Constraint) (e : Edge) (v : Config) (c : ℕ) → T (gives g e v c)
    ↔ ((e.source ≡ v.location) × (channel e.label ≡ c) × T (holds e.guard v) × T (holds g (after e v)))
unfolding gives
gives_iff g e v c = (
  λ h.
      let (h1, d) = and_both ((eqb e.source v.location && eqb (channel e.label) c) && holds e.guard v)
      (holds g (after e v)) h in
      let (h2, b) = and_both (eqb e.source v.location && eqb (channel e.label) c) (holds e.guard v) h1 in
      let (a, k) = and_both (eqb e.source v.location) (eqb (channel e.label) c) h2 in
      (eqb→eq e.source v.location a, eqb→eq (channel e.label) c k, b, d),
  λ (a, k, b, d).
      and_T ((eqb e.source v.location && eqb (channel e.label) c) && holds e.guard v) (holds g (after e v))
      (and_T (eqb e.source v.location && eqb (channel e.label) c) (holds e.guard v)
      (and_T (eqb e.source v.location) (eqb (channel e.label) c)
      (rw (eq-eqb e.source v.location a) tt)
      (rw (eq-eqb (channel e.label) c k) tt)) b) d,
)

-- equal pairs of locations have equal parts
pub pair_parts : (n p q a b : ℕ) → q < n → b < n → pair n p q ≡ pair n a b → (p ≡ a) × (q ≡ b)
unfolding pair
pair_parts n p q a b h k e = (
  sym (digits_div p h) ∙ ap (λ (i : ℕ). i / n) e ∙ digits_div a k,
  sym (digits_mod p h) ∙ ap (λ (i : ℕ). i % n) e ∙ digits_mod a k,
)

-- an edge of a text: what joining needs of it
pub record EdgeIn (t : Text) (e : Edge) : Type 0 where
  pub source : e.source < t.location_count
  pub target : e.target < t.location_count
  pub guard : FormedConstraint t.clock_count e.guard

pub edge_in : (t : Text) → WellFormed t → (i : ℕ) → i < t.edge_count → EdgeIn t (edge t i)
edge_in t w i h = record { source = w.source i h; target = w.target i h; guard = w.guard i h }

module _ (f : ℕ → ℕ) (l r : Text) (x : WellFormed l) (y : WellFormed r)
    (few : l.clock_count + r.clock_count ≤ clock_limit) {u v w : Config} (t : Together l r u v w)
    (h : v.location < l.location_count) (k : w.location < r.location_count) where
  -- the target's invariant, after a joined edge
  target_both : (a b : Edge) → EdgeIn l a → EdgeIn r b
      → holds (invariant_of (joined_text f l r) (joined_edge l r a b).target) (after (joined_edge l r a b) u)
      ≡ holds (invariant_of l a.target) (after a v) && holds (invariant_of r b.target) (after b w)
  unfolding joined_edge
  target_both a b i j =
      ap (λ (g : Constraint). holds g (after (joined_edge l r a b) u))
      (invariant_pair f l r a.target b.target i.target j.target)
      ∙ both_holds l r (after_together l r t few a b) (invariant_of l a.target) (invariant_of r b.target)
      (x.invariant a.target i.target) (y.invariant b.target j.target)

  -- a matching pair of edges gives a move exactly when both edges do
  module _ (c : ℕ) (a b : Edge) (i : EdgeIn l a) (j : EdgeIn r b) where
    abbrev joint : Constraint
    joint = invariant_of (joined_text f l r) (joined_edge l r a b).target

    gives_forth : T (matching f a b) → T (gives joint (joined_edge l r a b) u c)
        → T (gives (invariant_of l a.target) a v c) × T (gives (invariant_of r b.target) b w (f c))
    unfolding matching joined_edge
    gives_forth m z =
        let (s, q, g, d) = (gives_iff joint (joined_edge l r a b) u c).0 z in
        let (sa, sb) = pair_parts r.location_count a.source b.source v.location w.location
        j.source k (s ∙ t.location) in
        let (ga, gb) = and_both (holds a.guard v) (holds b.guard w)
        (subst T (both_holds l r t a.guard b.guard i.guard j.guard) g) in
        let (da, db) = and_both (holds (invariant_of l a.target) (after a v))
        (holds (invariant_of r b.target) (after b w)) (subst T (target_both a b i j) d) in
        let n : channel b.label ≡ f c = sym (eqb→eq (f (channel a.label)) (channel b.label) m) ∙ ap f q in (
          (gives_iff (invariant_of l a.target) a v c).1 (sa, q, ga, da),
          (gives_iff (invariant_of r b.target) b w (f c)).1 (sb, n, gb, db),
        )

    gives_back : T (gives (invariant_of l a.target) a v c) → T (gives (invariant_of r b.target) b w (f c))
        → T (matching f a b) × T (gives joint (joined_edge l r a b) u c)
    unfolding matching joined_edge
    gives_back p q =
        let (sa, ca, ga, da) = (gives_iff (invariant_of l a.target) a v c).0 p in
        let (sb, cb, gb, db) = (gives_iff (invariant_of r b.target) b w (f c)).0 q in
        let n : f (channel a.label) ≡ channel b.label = ap f ca ∙ sym cb in (
          rw (eq-eqb (f (channel a.label)) (channel b.label) n) tt,
          (gives_iff joint (joined_edge l r a b) u c).1 (
            rw (sa, sb) (sym t.location),
            ca,
            subst T (sym (both_holds l r t a.guard b.guard i.guard j.guard))
                (and_T (holds a.guard v) (holds b.guard w) ga gb),
            subst T (sym (target_both a b i j))
                (and_T (holds (invariant_of l a.target) (after a v))
                (holds (invariant_of r b.target) (after b w)) da db),
          ),
        )

    gives_both : (matching f a b && gives joint (joined_edge l r a b) u c)
        ≡ (gives (invariant_of l a.target) a v c && gives (invariant_of r b.target) b w (f c))
    gives_both = T_same _ _
        (λ e. let (m, z) = and_both (matching f a b) (gives joint (joined_edge l r a b) u c) e in
        let (p, q) = gives_forth m z in
        and_T (gives (invariant_of l a.target) a v c) (gives (invariant_of r b.target) b w (f c)) p q)
        (λ e. let (p, q) = and_both (gives (invariant_of l a.target) a v c)
        (gives (invariant_of r b.target) b w (f c)) e in
        let (m, z) = gives_back p q in
        and_T (matching f a b) (gives joint (joined_edge l r a b) u c) m z)

    pair_both : Both (TogetherFrom l r u) (pair_move f l r (move_of (joined_text f l r) u c) a b) (move_of l v c a)
        (move_of r w (f c) b)
    unfolding pair_move move_of edge_move
    pair_both = subst (λ (m : Moves). Both (TogetherFrom l r u) m (one_if A (after a v)) (one_if B (after b w)))
        (ap (λ (z : Bool). one_if z (after (joined_edge l r a b) u)) (sym gives_both) ∙ sym (tested (matching f a b)))
        (both_if (TogetherFrom l r u) A B (after (joined_edge l r a b) u) (after a v) (after b w)
        (after_together_from l r t few a b))
      where
        A : Bool
        A = gives (invariant_of l a.target) a v c

        B : Bool
        B = gives (invariant_of r b.target) b w (f c)

        tested : (m : Bool)
            → cond m (one_if (gives joint (joined_edge l r a b) u c) (after (joined_edge l r a b) u)) Nothing
            ≡ one_if (m && gives joint (joined_edge l r a b) u c) (after (joined_edge l r a b) u)
        tested true = refl
        tested false = unfold one_if in refl

  -- the moves by a channel
  edges_both : (c : ℕ) → Both (TogetherFrom l r u)
      (edge_moves (joined_text f l r) u c (joined_text f l r).edge_count) (edge_moves l v c l.edge_count)
      (edge_moves r w (f c) r.edge_count)
  edges_both c =
      rw (joined_sum f l r u c, edges_sum l v c l.edge_count, edges_sum r w (f c) r.edge_count)
      (both_left_sum (TogetherFrom l r u) (together_only l r u) (λ a. sum (pair_move f l r (move_of (joined_text f l r) u c) a) (edges_of r))
      (move_of l v c) (sum (move_of r w (f c)) (edges_of r)) (edges_of l)
      (every_tab (λ a. Both (TogetherFrom l r u) (sum (pair_move f l r (move_of (joined_text f l r) u c) a) (edges_of r))
      (move_of l v c a) (sum (move_of r w (f c)) (edges_of r))) (edge l) 0 l.edge_count
      (λ i m. rw (zero-add i) (row (edge l i) (edge_in l x i m)))))
    where
      row : (a : Edge) → EdgeIn l a
          → Both (TogetherFrom l r u) (sum (pair_move f l r (move_of (joined_text f l r) u c) a) (edges_of r))
          (move_of l v c a) (sum (move_of r w (f c)) (edges_of r))
      row a i = both_right_sum (TogetherFrom l r u) (together_only l r u) (pair_move f l r (move_of (joined_text f l r) u c) a) (move_of r w (f c))
          (move_of l v c a) (edges_of r) (both_nothing (TogetherFrom l r u) (move_of l v c a))
          (every_tab (λ b. Both (TogetherFrom l r u) (pair_move f l r (move_of (joined_text f l r) u c) a b) (move_of l v c a)
          (move_of r w (f c) b)) (edge r) 0 r.edge_count
          (λ j n. rw (zero-add j) (pair_both c a (edge r j) i (edge_in r y j n))))

  tick_both : Both (Together l r) (tick_move (joined_text f l r) u) (tick_move l v) (tick_move r w)
  unfolding tick_move
  tick_both = subst (λ (b : Bool). Both (Together l r) (one_if b (ticked u))
      (one_if (invariant l (ticked v)) (ticked v)) (one_if (invariant r (ticked w)) (ticked w)))
      (sym (invariant_both f l r x y (ticked_together l r t) (rw (ticked_location v) h) (rw (ticked_location w) k)))
      (both_if (Together l r) (invariant l (ticked v)) (invariant r (ticked w)) (ticked u) (ticked v) (ticked w)
      (ticked_together l r t))

  -- the moves of the joined record by a step
  pub moves_both : PairedSteps f l r → (c : ℕ) → c ≤ l.channel_count
      → Both (Together l r) (moves (joined_text f l r) u c) (moves l v c) (moves r w (f c))
  unfolding moves
  moves_both p zero n = rw p.tick tick_both
  moves_both p (suc c) n =
      let m = p.there (suc c) (record { from_one = omega arith; declared = n }) in
      rw (ne_eqb (suc c) 0 (λ e. omega arith), ne_eqb (f (suc c)) 0 (λ e. omega (arith, m.from_one)), moves)
      (both_weaker (TogetherFrom l r u) (Together l r) (λ y v w q. q.together)
      (edge_moves (joined_text f l r) u (suc c) (joined_text f l r).edge_count)
      (edge_moves l v (suc c) l.edge_count) (edge_moves r w (f (suc c)) r.edge_count) (edges_both (suc c)))
