-- Laws of the edges: what one pair more adds, and that more pairs are more edges.
use Rattle.std.specs.Prelude.{◌≡◌, Bool, ℕ, zero, suc, ◌+◌, ◌-◌, ◌≤◌, ◌<◌, eqb, length, get_or, set}
use Rattle.std.proofs.Math.Path.{refl}
use Rattle.std.proofs.Common.{sym, ap, subst, ◌∙◌, zero-add, add-one, arith, length-set, length-append, get_or-set_same, get_or-set_other, get_or-append-add, eq-eqb, ne_eqb}
use Rattle.std.proofs.Math.Bool.{true, false, cond}
use mathlib.Core.List.{List, [], ◌∷◌, ◌++◌, append_assoc}
use Rattle.std.proofs.Math.Decide.{ℕ_discrete}
use Rattle.std.proofs.Math.ListN.{get_or-append}
use Rattle.limits.specs.Limits.{edge_limit}
use Rattle.bitmaps.specs.Bits.{tab_from}
use Rattle.reader_record.specs.declared.Edge.{Edge}
use Rattle.reader_record.specs.declared.Text.{Text}
use Rattle.reader_record.specs.Record.{no_edge, edge, channel}
use Rattle.joined.specs.Joined.{matching, joined_edge, paired_with, paired, edges_of}
use Rattle.joined.proofs.Formed.{pair_lt}
use Rattle.joining_items.specs.Items.{NearEdge, EdgesJoinable, joined_by}
use Rattle.joining_items.specs.Laws.{below_last}
use Rattle.joining_edges.specs.declared.Edges.{Edges}
use Rattle.joining_edges.specs.Edges.{edge_at, with_by, Pairable, Holds, Gathered}

append_none : (ys : List Edge) → ys ++ [] ≡ ys
append_none [] = refl
append_none (y ∷ ys) = ap (λ (zs : List Edge). y ∷ zs) (append_none ys)

tab_last : (f : ℕ → Edge) (k n : ℕ) → tab_from f k (suc n) ≡ tab_from f k n ++ (f (k + n) ∷ [])
unfolding tab_from
tab_last f k zero = let e : k + 0 ≡ k = omega arith in rw e
tab_last f k (suc n) = let e : k + suc n ≡ suc k + n = omega arith in
    rw e (ap (λ (zs : List Edge). f k ∷ zs) (tab_last f (suc k) n))

-- g gives a list for a list, that of two lists being the two lists of each: by the first items of a table it grows
module _ (g : List Edge → List Edge) (append : (xs ys : List Edge) → g (xs ++ ys) ≡ g xs ++ g ys) (f : ℕ → Edge) where
  pub tab_more : (i : ℕ) → g (tab_from f 0 (i + 1)) ≡ g (tab_from f 0 i) ++ g (f i ∷ [])
  tab_more i = rw (add-one i) (ap g (tab_last f 0 i ∙ rw (zero-add i)) ∙ append (tab_from f 0 i) (f i ∷ []))

  grows_by : (i j : ℕ) → length (g (tab_from f 0 i)) ≤ length (g (tab_from f 0 (i + j)))
  grows_by i zero = let e : i + 0 ≡ i = omega arith in rw e (omega arith)
  grows_by i (suc j) =
      let e : i + suc j ≡ i + j + 1 = omega arith in
      let more = length-append (g (tab_from f 0 (i + j))) (g (f (i + j) ∷ [])) in
      rw (e, tab_more (i + j)) (omega (arith, grows_by i j, more))

  pub tab_grows : (i k : ℕ) → i ≤ k → length (g (tab_from f 0 i)) ≤ length (g (tab_from f 0 k))
  tab_grows i k h = let e : i + (k - i) ≡ k = omega arith in rw e at (grows_by i (k - i))

-- a left edge with right edges
module _ (m n w d : ℕ) (a : Edge) where
  pub with_append : (bs cs : List Edge) → with_by m n w d a (bs ++ cs) ≡ with_by m n w d a bs ++ with_by m n w d a cs
  unfolding with_by
  with_append [] cs = refl
  with_append (b ∷ bs) cs = rw (with_append bs cs)
      (go (eqb d (channel b.label)) (joined_by m n w a b) (with_by m n w d a bs) (with_by m n w d a cs))
    where
      go : (t : Bool) (x : Edge) (xs ys : List Edge) → cond t (x ∷ (xs ++ ys)) (xs ++ ys) ≡ cond t (x ∷ xs) xs ++ ys
      go true x xs ys = refl
      go false x xs ys = refl

  with_yes : (b : Edge) → channel b.label ≡ d → with_by m n w d a (b ∷ []) ≡ joined_by m n w a b ∷ []
  unfolding with_by
  with_yes b e = rw (eq-eqb d (channel b.label) (sym e))

  with_not : (b : Edge) → (channel b.label ≡ d → ⊥) → with_by m n w d a (b ∷ []) ≡ []
  unfolding with_by
  with_not b e = rw (ne_eqb d (channel b.label) (λ q. e (sym q)))

  pub with_none : (f : ℕ → Edge) (xs : List Edge) → xs ++ with_by m n w d a (tab_from f 0 0) ≡ xs
  unfolding with_by tab_from
  with_none f xs = append_none xs

  module _ (f : ℕ → Edge) (i : ℕ) (xs : List Edge) where
    -- an edge that is not on the channel adds nothing
    pub with_skip : (channel (f i).label ≡ d → ⊥)
        → xs ++ with_by m n w d a (tab_from f 0 (i + 1)) ≡ xs ++ with_by m n w d a (tab_from f 0 i)
    with_skip e = rw (tab_more (with_by m n w d a) with_append f i, with_not (f i) e)
        (ap (λ (zs : List Edge). xs ++ zs) (append_none (with_by m n w d a (tab_from f 0 i))))

    -- one on the channel is added as the last
    pub with_take : channel (f i).label ≡ d → xs ++ with_by m n w d a (tab_from f 0 (i + 1))
        ≡ (xs ++ with_by m n w d a (tab_from f 0 i)) ++ (joined_by m n w a (f i) ∷ [])
    with_take e = rw (tab_more (with_by m n w d a) with_append f i, with_yes (f i) e)
        (sym (append_assoc xs (with_by m n w d a (tab_from f 0 i)) (joined_by m n w a (f i) ∷ [])))

    -- and then there are more edges, as far as the right edges go
    pub with_over : (k : ℕ) → i < k → channel (f i).label ≡ d
        → edge_limit ≤ length (xs ++ with_by m n w d a (tab_from f 0 i))
        → edge_limit < length (xs ++ with_by m n w d a (tab_from f 0 k))
    with_over k l e h =
        let y = with_by m n w d a (tab_from f 0 (i + 1)) in
        let z = with_by m n w d a (tab_from f 0 k) in
        let x = xs ++ with_by m n w d a (tab_from f 0 i) in
        omega (
          arith,
          h,
          tab_grows (with_by m n w d a) with_append f (i + 1) k (omega arith),
          ap length (with_take e),
          length-append x (joined_by m n w a (f i) ∷ []),
          length-append xs y,
          length-append xs z,
        )

-- an edge is added
added_last : (xs : List Edge) (x : Edge) → get_or (xs ++ (x ∷ [])) (length xs) no_edge ≡ x
added_last xs x = let e : length xs ≡ length xs + 0 = omega arith in
    ap (λ (k : ℕ). get_or (xs ++ (x ∷ [])) k no_edge) e ∙ get_or-append-add xs (x ∷ []) 0 no_edge

pub holds_more : (xs : List Edge) (x e : Edge) (list : List Edge) (count : ℕ) → count < edge_limit
    → Holds xs (record { list = list; count = count }) → NearEdge x e
    → Holds (xs ++ (x ∷ [])) (record { list = set list count e; count = count + 1 })
holds_more xs x e list count s h n = record {
  count = ap (λ (k : ℕ). k + 1) h.count ∙ sym (length-append xs (x ∷ []));
  few = omega arith;
  room = length-set list count e ∙ h.room;
  each = λ i l. elim (ℕ_discrete i (length xs)) [
    | yes z ↦ here i z
    | no z ↦ there i (below_last i (length xs) (omega (arith, length-append xs (x ∷ []))) z) z
  ];
}
  where
    here : (i : ℕ) → i ≡ length xs → NearEdge (edge_at (xs ++ (x ∷ [])) i) (edge_at (set list count e) i)
    here i z =
        let k : count < length list = omega (arith, h.room) in
        let p : edge_at (xs ++ (x ∷ [])) i ≡ x = ap (edge_at (xs ++ (x ∷ []))) z ∙ added_last xs x in
        let q : edge_at (set list count e) i ≡ e =
        ap (edge_at (set list count e)) (z ∙ sym h.count) ∙ get_or-set_same list count e no_edge k in
        subst (λ (y : Edge). NearEdge y (edge_at (set list count e) i)) (sym p) (subst (NearEdge x) (sym q) n)

    there : (i : ℕ) → i < length xs → (i ≡ length xs → ⊥)
        → NearEdge (edge_at (xs ++ (x ∷ [])) i) (edge_at (set list count e) i)
    there i l z =
        let p : edge_at (xs ++ (x ∷ [])) i ≡ edge_at xs i = get_or-append xs (x ∷ []) no_edge i l in
        let q : edge_at (set list count e) i ≡ edge_at list i =
        get_or-set_other list count i e no_edge (λ q. z (q ∙ h.count)) in
        subst (λ (y : Edge). NearEdge y (edge_at (set list count e) i)) (sym p)
        (subst (NearEdge (edge_at xs i)) (sym q) (h.each i l))

pub gathered : (xs : List Edge) (es : Edges) → Holds xs es → Gathered xs es
gathered xs es h = record { within = λ l. h; over = λ l. absurd (omega (arith, h.few)) }

pub gathered_over : (xs list : List Edge) → edge_limit < length xs
    → Gathered xs (record { list = list; count = edge_limit + 1 })
gathered_over xs list h = record { within = λ l. absurd (omega arith); over = λ l. h }

-- the edges of two texts
module _ (l r : Text) (f : ℕ → ℕ) where
  -- by the texts or by their numbers
  with_is : (a : Edge) (bs : List Edge) → paired_with l r f a bs
      ≡ with_by l.clock_count r.clock_count r.location_count (f (channel a.label)) a bs
  unfolding paired_with with_by matching joined_edge joined_by
  with_is a [] = refl
  with_is a (b ∷ bs) = rw (with_is a bs)

  pub paired_append : (bs xs ys : List Edge) → paired l r f (xs ++ ys) bs ≡ paired l r f xs bs ++ paired l r f ys bs
  unfolding paired
  paired_append bs [] ys = refl
  paired_append bs (x ∷ xs) ys = rw (paired_append bs xs ys)
      (sym (append_assoc (paired_with l r f x bs) (paired l r f xs bs) (paired l r f ys bs)))

  paired_one : (a : Edge) (bs : List Edge) → paired l r f (a ∷ []) bs
      ≡ with_by l.clock_count r.clock_count r.location_count (f (channel a.label)) a bs
  unfolding paired
  paired_one a bs = append_none (paired_with l r f a bs) ∙ with_is a bs

  pub paired_none : paired l r f (tab_from (edge l) 0 0) (edges_of r) ≡ []
  unfolding paired tab_from
  paired_none = refl

  -- one left edge more
  pub paired_more : (i : ℕ) → paired l r f (tab_from (edge l) 0 (i + 1)) (edges_of r)
      ≡ paired l r f (tab_from (edge l) 0 i) (edges_of r)
      ++ with_by l.clock_count r.clock_count r.location_count (f (channel (edge l i).label)) (edge l i)
      (edges_of r)
  paired_more i = tab_more (λ xs. paired l r f xs (edges_of r)) (paired_append (edges_of r)) (edge l) i
      ∙ ap (λ (zs : List Edge). paired l r f (tab_from (edge l) 0 i) (edges_of r) ++ zs)
      (paired_one (edge l i) (edges_of r))

  pub paired_turn : (i d : ℕ) (es : Edges) → d ≡ f (channel (edge l i).label)
      → Gathered (paired l r f (tab_from (edge l) 0 i) (edges_of r)
      ++ with_by l.clock_count r.clock_count r.location_count d (edge l i) (edges_of r)) es
      → Gathered (paired l r f (tab_from (edge l) 0 (i + 1)) (edges_of r)) es
  paired_turn i d es e g = rw (paired_more i) (rw e at g)

  pub paired_over : (i : ℕ) → i ≤ l.edge_count
      → edge_limit < length (paired l r f (tab_from (edge l) 0 i) (edges_of r))
      → edge_limit < length (paired l r f (edges_of l) (edges_of r))
  paired_over i h k = omega (
    arith,
    k,
    tab_grows (λ xs. paired l r f xs (edges_of r)) (paired_append (edges_of r)) (edge l) i l.edge_count h,
  )

-- the edges of two such texts can be joined
pub edges_joinable : (l r : Text) → Pairable l r → (i k : ℕ) → i < l.edge_count → k < r.edge_count
    → EdgesJoinable l.clock_count r.clock_count r.location_count (edge l i) (edge r k)
edges_joinable l r p i k a b = record {
  guards = record {
    left_few = (p.left.guard i a).few;
    right_few = (p.right.guard k b).few;
    left_clocks = p.left.clocks;
    clocks = λ j h. omega (arith, (p.right.guard k b).clock j h, p.right.clocks);
  };
  clocks = p.clocks;
  sources = omega (
    arith,
    p.locations,
    pair_lt l.location_count r.location_count (edge l i).source
        (edge r k).source (p.left.source i a) (p.right.source k b),
  );
  targets = omega (
    arith,
    p.locations,
    pair_lt l.location_count r.location_count (edge l i).target
        (edge r k).target (p.left.target i a) (p.right.target k b),
  );
}
