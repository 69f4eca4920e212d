-- One item of a list and one turn: its item, and what stands after it; and what is read of it before a fault.
use Rattle.std.specs.Prelude.{◌≡◌, Bool, true, false, List, [], ℕ, suc, ◌+◌, ◌-◌, ◌≤◌, ◌<◌, Result, Ok, Err, nat_le, if◌then◌else◌}
use Rattle.std.proofs.Common.{refl, arith, sym, ◌∙◌}
use Rattle.reader_tokens.specs.Kinds as kinds
use Rattle.reader_record.specs.declared.Name.{Name}
use Rattle.reader_record.specs.declared.Constraint.{Constraint}
use Rattle.reader_record.specs.declared.Edge.{Edge}
use Rattle.reader_parts.specs.declared.Fault.{Fault}
use Rattle.reader_parts.specs.Binds.{bind_of}
use Rattle.reader_parts.specs.Facts.{ahead_taken}
use Rattle.reader_parts.specs.Stages.{◌>>=◌, take, ahead, ahead_of}
use Rattle.reader_parts.specs.Names.{declare}
use Rattle.reader_parts.specs.Slots.{name_slots}
use Rattle.reader_parts.specs.declared.Declaration.{Declaration}
use Rattle.reader_parts.specs.SoFar.{name_so_far}
use Rattle.reader_constraints.specs.declared.ConstraintRead.{ConstraintRead}
use Rattle.reader_constraints.specs.Constraints.{blank_constraint, invariant}
use Rattle.reader_edges.specs.declared.EdgeRead.{EdgeRead}
use Rattle.reader_edges.specs.declared.EdgeSoFar.{EdgeSoFar}
use Rattle.reader_edges.specs.Edges.{edge_next}
use Rattle.reader_edges.specs.SoFar.{edge_so_far}
use Rattle.limits.specs.Limits.{edge_limit}
use Rattle.reader_lists.specs.declared.Named.{Named}
use Rattle.reader_lists.specs.declared.Named.TheVariants.{Channel, Clock, Location}
use Rattle.reader_lists.specs.declared.Turn.{Turn}
use Rattle.reader_lists.specs.declared.Head.{Head}
use Rattle.reader_lists.specs.declared.HeadRead.{HeadRead}
use Rattle.reader_lists.specs.declared.HeadSoFar.{HeadSoFar}
use Rattle.reader_lists.specs.declared.EdgesRead.{EdgesRead}
use Rattle.reader_lists.specs.declared.EdgesSoFar.{EdgesSoFar}
use Rattle.reader_lists.specs.State.{State}
use Rattle.reader_lists.specs.State.{state_of, next_token, with_channel, with_clock, with_location, with_edge}
use Rattle.reader_lists.specs.Lists.{Item}
use Rattle.reader_lists.specs.Lists.{limit, channel_item, clock_item, location_item, edge_item, one_item, items_from}
use Rattle.reader_lists.specs.Turns.{item, first_slot, after_item}
use Rattle.reader_lists.specs.SoFar.{SoFar, Goes}
use Rattle.reader_lists.specs.SoFar.{so_far, place_of, count_of, with_named, held_next, held_so_far, declared_so_far, named_so_far, edge_item_so_far, item_so_far, items_so_far_from}
use Rattle.reader_lists.specs.Heads.{whole, added, with_rest, with_head, head_at, edges_at, ReadsHead, ReadsEdges, LeadsOn}

-- the slots of a kind are slots
pub slots_fit : (k : Named) → first_slot k + limit (item k) ≤ name_slots
slots_fit Channel = omega arith
slots_fit Clock = omega arith
slots_fit Location = omega arith

-- a turn at a count below the limit leaves room for one fewer
pub room_left : (limit k : ℕ) → k < limit → limit - k ≡ suc (limit - (k + 1))
room_left limit k h = omega arith

-- where there is room for an item of the kind k, and k is k'
pub room_for : {n l : ℕ} {k k' : Named} → n < l → l ≡ limit (item k) → k ≡ k' → n < limit (item k')
room_for h e t = rw (e, t) at h

-- an item that is added to the head is added to the record
pub added_whole : (k : Named) (h : Head) (n : Name) (c : Constraint) (init : ℕ) (edges : List Edge) (number : ℕ)
    → whole (added k h n c) init edges number ≡ with_named k (whole h init edges number) n c
unfolding with_channel with_clock with_location
added_whole Channel h n c init edges number = refl
added_whole Clock h n c init edges number = refl
added_whole Location h n c init edges number = refl

-- one item of the kind k, by what its declaration gives
module _ (period : ℕ) (s : List ℕ) (r : State) where
  abbrev pub declared : Named → Result Declaration Fault
  declared k = declare s r.place r.names (first_slot k) (count_of k r.text) (limit (item k))

  pub item_none : (k : Named) {f : Fault} → declared k ≡ Err f → one_item period (item k) s r ≡ Err f
  unfolding channel_item clock_item location_item
  item_none Channel e = rw e
  item_none Clock e = rw e
  item_none Location e = rw e

  module _ {d : Declaration} where
    pub channel_read : Ok d ≡ declared Channel
        → one_item period Item.Channel s r ≡ Ok (state_of d.names (with_channel r.text d.name) d.end)
    unfolding channel_item
    channel_read e = rw (← e)

    pub clock_read : Ok d ≡ declared Clock
        → one_item period Item.Clock s r ≡ Ok (state_of d.names (with_clock r.text d.name) d.end)
    unfolding clock_item
    clock_read e = rw (← e)

    pub location_read : Ok d ≡ declared Location
        → one_item period Item.Location s r ≡ (invariant period s d.end d.names
        >>= λ i. Ok (state_of d.names (with_location r.text d.name i.constraint) i.end))
    unfolding location_item
    location_read e = rw (← e)

  pub item_read : (k : Named) {d : Declaration} → declared k ≡ Ok d
      → one_item period (item k) s r ≡ (held_next period k s d.end d.names
      >>= λ i. Ok (state_of d.names (with_named k r.text d.name i.constraint) i.end))
  unfolding held_next
  item_read Channel e = channel_read (sym e)
  item_read Clock e = clock_read (sym e)
  item_read Location e = location_read (sym e)

-- a turn where there is room for so many more items: what stands after the item
module _ (period : ℕ) (k : Item) (s : List ℕ) (room : ℕ) where
  abbrev on : State → Result State Fault
  on q =
      let more = next_token s kinds.comma q >>= items_from period room k s in
      if ahead s q.place kinds.comma then more else next_token s kinds.semicolon q

  -- the rest of the list, by what stands after the item that led to q
  abbrev rest : State → Result Turn Fault → Result State Fault
  rest q t = t >>= λ y. if y.more then items_from period room k s (state_of q.names q.text y.end)
      else Ok (state_of q.names q.text y.end)

  turn_is : (q : State) → on q ≡ rest q (after_item s q.place)
  unfolding next_token after_item
  turn_is q = by (ahead s q.place kinds.comma) refl
    where
      end : (c : Result ℕ Fault) → (c >>= λ e. Ok (state_of q.names q.text e))
          ≡ rest q (c >>= λ e. Ok (record { more = false; end = e }))
      end (Ok e) = refl
      end (Err f) = refl

      comma : (c : Result ℕ Fault) → (c >>= (λ e. Ok (state_of q.names q.text e)) >>= items_from period room k s)
          ≡ rest q (c >>= λ e. Ok (record { more = true; end = e }))
      comma (Ok e) = refl
      comma (Err f) = refl

      by : (b : Bool) → ahead s q.place kinds.comma ≡ b → on q ≡ rest q (after_item s q.place)
      by true h = rw h (comma (take s q.place kinds.comma))
      by false h = rw h (end (take s q.place kinds.semicolon))

-- one turn
module _ (period : ℕ) (k : Item) (s : List ℕ) (r : State) (room : ℕ) where
  -- the item is refused
  pub turn_none : {f : Fault} → one_item period k s r ≡ Err f → items_from period (suc room) k s r ≡ Err f
  unfolding items_from
  turn_none e = rw e

  module _ {q : State} (e : one_item period k s r ≡ Ok q) where
    turn_on : items_from period (suc room) k s r ≡ rest period k s room q (after_item s q.place)
    unfolding items_from
    turn_on = rw e (turn_is period k s room q)

    -- what stands after the item is refused
    pub turn_fault : {f : Fault} → Err f ≡ after_item s q.place → items_from period (suc room) k s r ≡ Err f
    turn_fault a = rw (turn_on, ← a)

    module _ {t : Turn} (a : Ok t ≡ after_item s q.place) where
      -- the item was the last one
      pub turn_last : t.more ≡ false → items_from period (suc room) k s r ≡ Ok (state_of q.names q.text t.end)
      turn_last h = rw (turn_on, ← a, h)

      -- another item comes
      pub turn_more : t.more ≡ true
          → items_from period (suc room) k s r ≡ items_from period room k s (state_of q.names q.text t.end)
      turn_more h = rw (turn_on, ← a, h)

-- one turn behind a stage, from at and h on, of which the item led to x and q
module _ (period : ℕ) (k : Item) (s : List ℕ) (room : ℕ) (at : Result ℕ Fault) (h : SoFar) (x : Result ℕ Fault) (q : SoFar)
    (g : Goes (one_item period k s) (item_so_far period k s) at h x q) where
  place_is : place_of (at >>= λ p. one_item period k s (state_of h.names h.text p)) ≡ x
  place_is = rw g.reads (by x)
    where
      by : (y : Result ℕ Fault) → place_of (y >>= λ p. Ok (state_of q.names q.text p)) ≡ y
      by (Ok p) = refl
      by (Err f) = refl

  -- where the item led; what comes of it does not use the place here
  abbrev to : ℕ → State
  to p = state_of q.names q.text p

  items_on : (at >>= λ p. items_from period (suc room) k s (state_of h.names h.text p))
      ≡ rest period k s room (to 0) (x >>= after_item s)
  unfolding items_from
  items_on =
      sym (bind_of at (λ p. one_item period k s (state_of h.names h.text p)) (on period k s room)) ∙ rw g.reads (by x)
    where
      by : (y : Result ℕ Fault) → (y >>= (λ p. Ok (to p)) >>= on period k s room)
          ≡ rest period k s room (to 0) (y >>= after_item s)
      by (Ok p) = turn_is period k s room (to p)
      by (Err f) = refl

  -- what of the rest of the list is read, by what stands after the item
  abbrev read : Result Turn Fault → SoFar
  read (Ok t) = if t.more then items_so_far_from period room k s (Ok t.end) q else q
  read (Err f) = q

  so_far_on : items_so_far_from period (suc room) k s at h ≡ read (x >>= after_item s)
  unfolding items_so_far_from after_item
  so_far_on = rw (place_is, g.stops) (by x)
    where
      end : (c : Result ℕ Fault) → q ≡ read (c >>= λ e. Ok (record { more = false; end = e }))
      end (Ok e) = refl
      end (Err f) = refl

      turn : (p : ℕ) (b : Bool) → ahead s p kinds.comma ≡ b
          → (if ahead s p kinds.comma then items_so_far_from period room k s (take s p kinds.comma) q else q)
          ≡ read (after_item s p)
      turn p true t = rw (t, ahead_taken s p kinds.comma t)
      turn p false t = rw t (end (take s p kinds.semicolon))

      by : (y : Result ℕ Fault)
          → (if ahead_of s y kinds.comma then items_so_far_from period room k s (y >>= λ p. take s p kinds.comma) q
          else q) ≡ read (y >>= after_item s)
      by (Ok p) = turn p (ahead s p kinds.comma) refl
      by (Err f) = refl

  -- the item, or what stands after it, is refused
  module _ {f : Fault} (e : (x >>= after_item s) ≡ Err f) where
    pub list_refused : (at >>= λ p. items_from period (suc room) k s (state_of h.names h.text p)) ≡ Err f
    list_refused = rw e at items_on

    pub turn_so_far : items_so_far_from period (suc room) k s at h ≡ q
    turn_so_far = rw e at so_far_on

  module _ {t : Turn} (e : (x >>= after_item s) ≡ Ok t) where
    -- the item was the last one
    pub list_ends : t.more ≡ false
        → (at >>= λ p. items_from period (suc room) k s (state_of h.names h.text p)) ≡ Ok (state_of q.names q.text t.end)
    list_ends m = rw (e, m) at items_on

    -- another item comes
    pub list_goes_on : t.more ≡ true
        → (at >>= λ p. items_from period (suc room) k s (state_of h.names h.text p))
        ≡ items_from period room k s (state_of q.names q.text t.end)
    list_goes_on m = rw (e, m) at items_on

    pub more_so_far : t.more ≡ true
        → items_so_far_from period (suc room) k s at h ≡ items_so_far_from period room k s (Ok t.end) q
    more_so_far m = rw (e, m) at so_far_on

-- a head, of which nothing is read
no_head : Head
no_head = record {
  channels = [];
  channel_count = 0;
  clocks = [];
  clock_count = 0;
  locations = [];
  location_count = 0;
}

-- a list leads on from what stands before it, where it does so whatever the rest of the record is
module _ (part : State → Result State Fault) where
  pub head_leads : (r : HeadSoFar) (at : Result ℕ Fault) (q : Result HeadRead Fault)
      → ((init : ℕ) (edges : List Edge) (count : ℕ)
      → (at >>= λ p. part (state_of r.names (whole r.head init edges count) p))
      ≡ (q >>= λ h. Ok (with_rest h init edges count)))
      → LeadsOn (λ p. ReadsHead part (head_at r p)) at q
  head_leads r (Ok p) q k = k
  head_leads r (Err f) (Ok h) k = let e = k 0 [] 0 in cc
  head_leads r (Err f) (Err g) k = let e = k 0 [] 0 in cc

  pub edges_lead : (names : List Name) (r : EdgesSoFar) (at : Result ℕ Fault) (q : Result EdgesRead Fault)
      → ((h : Head) (init : ℕ)
      → (at >>= λ p. part (with_head names h init (edges_at r p))) ≡ (q >>= λ e. Ok (with_head names h init e)))
      → LeadsOn (λ p. ReadsEdges part names (edges_at r p)) at q
  edges_lead names r (Ok p) q k = k
  edges_lead names r (Err f) (Ok h) k = let e = k no_head 0 in cc
  edges_lead names r (Err f) (Err g) k = let e = k no_head 0 in cc

-- one item of the kind k from at and h on, with what is read of it before a fault
module _ (period : ℕ) (s : List ℕ) (k : Named) (at : Result ℕ Fault) (h : SoFar) where
  abbrev pub declared_at : Result Declaration Fault
  declared_at =
      at >>= λ p. declare s p h.names (first_slot k) (count_of k h.text) (limit (item k))

  abbrev Leads : Result ℕ Fault → SoFar → Type 0
  Leads x q = Goes (one_item period (item k) s) (item_so_far period (item k) s) at h x q

  abbrev by_declaration : Result Declaration Fault → Result State Fault
  by_declaration d = d >>= λ x. held_next period k s x.end x.names
      >>= λ i. Ok (state_of x.names (with_named k h.text x.name i.constraint) i.end)

  item_by : (a : Result ℕ Fault) → (a >>= λ p. one_item period (item k) s (state_of h.names h.text p))
      ≡ by_declaration (a >>= λ p. declare s p h.names (first_slot k) (count_of k h.text) (limit (item k)))
  item_by (Err f) = refl
  item_by (Ok p) = by (declared period s (state_of h.names h.text p) k) refl
    where
      by : (d : Result Declaration Fault) → declared period s (state_of h.names h.text p) k ≡ d
          → one_item period (item k) s (state_of h.names h.text p)
          ≡ by_declaration (declared period s (state_of h.names h.text p) k)
      by (Ok x) e = rw (item_read period s (state_of h.names h.text p) k e, e) refl
      by (Err f) e = rw (item_none period s (state_of h.names h.text p) k e, e) refl

  so_far_by : item_so_far period (item k) s at h ≡ declared_so_far period k s at h declared_at
  unfolding named_so_far
  so_far_by = by k
    where
      by : (j : Named) → item_so_far period (item j) s at h ≡ declared_so_far period j s at h
          (at >>= λ p. declare s p h.names (first_slot j) (count_of j h.text) (limit (item j)))
      by Channel = refl
      by Clock = refl
      by Location = refl

  module _ {d : Declaration} (e : declared_at ≡ Ok d) where
    pub item_goes : {i : ConstraintRead} → held_next period k s d.end d.names ≡ Ok i
        → Leads (Ok i.end) (so_far d.names (with_named k h.text d.name i.constraint))
    item_goes t = record { reads = rw (item_by at, e, t) refl; stops = rw (so_far_by, e, t) refl }

    pub item_stops : {f : Fault} {c : Constraint} → held_next period k s d.end d.names ≡ Err f
        → held_so_far period k s d.end d.names ≡ c → Leads (Err f) (so_far d.names (with_named k h.text d.name c))
    item_stops t u = record { reads = rw (item_by at, e, t) refl; stops = rw (so_far_by, e, t, u) refl }

  module _ {f : Fault} (e : declared_at ≡ Err f) where
    pub none_goes : {n : Name} → name_so_far s at ≡ n → nat_le (limit (item k)) (count_of k h.text) ≡ false
        → Leads (Err f) (so_far h.names (with_named k h.text n blank_constraint))
    none_goes t u = record { reads = rw (item_by at, e) refl; stops = rw (so_far_by, e, u, t) refl }

    pub none_full : nat_le (limit (item k)) (count_of k h.text) ≡ true → Leads (Err f) h
    none_full u = record { reads = rw (item_by at, e) refl; stops = rw (so_far_by, e, u) refl }

-- one edge from at and h on, with what is read of it before a fault
module _ (period : ℕ) (s : List ℕ) (at : Result ℕ Fault) (h : SoFar) where
  abbrev pub full : Bool
  full = nat_le edge_limit h.text.edge_count

  abbrev pub edge_at : Result EdgeRead Fault
  edge_at = at >>= λ p. edge_next period s p h.names h.text.channels full

  abbrev LeadsEdge : Result ℕ Fault → SoFar → Type 0
  LeadsEdge x q = Goes (one_item period Item.Edge s) (item_so_far period Item.Edge s) at h x q

  edge_by : (a : Result ℕ Fault) → (a >>= λ p. one_item period Item.Edge s (state_of h.names h.text p))
      ≡ ((a >>= λ p. edge_next period s p h.names h.text.channels full)
      >>= λ e. Ok (state_of h.names (with_edge h.text e.edge e.channel e.input) e.end))
  unfolding edge_item
  edge_by (Err f) = refl
  edge_by (Ok p) = refl

  pub edge_goes : {x : EdgeRead} → edge_at ≡ Ok x
      → LeadsEdge (Ok x.end) (so_far h.names (with_edge h.text x.edge x.channel x.input))
  unfolding edge_item_so_far
  edge_goes e = record { reads = rw (edge_by at, e) refl; stops = rw e refl }

  module _ {f : Fault} (e : edge_at ≡ Err f) where
    pub edge_stops : {q : EdgeSoFar} → edge_so_far period s at h.names h.text.channels full ≡ q → full ≡ false
        → LeadsEdge (Err f) (so_far h.names (with_edge h.text q.edge q.channel q.input))
    unfolding edge_item_so_far
    edge_stops t u = record { reads = rw (edge_by at, e) refl; stops = rw (e, t, u) refl }

    pub edge_full : full ≡ true → LeadsEdge (Err f) h
    unfolding edge_item_so_far
    edge_full u = record { reads = rw (edge_by at, e) refl; stops = rw (e, u) refl }
