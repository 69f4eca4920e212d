-- What holds of the names and of the record while a text is read, and that each item that is added keeps it.
use Rattle.std.specs.Prelude.{◌≡◌, refl, Bool, List, ℕ, ◌+◌, ◌-◌, ◌≤◌, ◌<◌, length, get_or, set}
use Rattle.std.proofs.Common.{◌∙◌, get_or-set_same}
use Rattle.std.proofs.Math.Bool.{true, false}
use native.Mathlib.Omega.{arith}
use Rattle.std.proofs.Math.Dec.{T}
use Rattle.std.proofs.Math.ListN.{length-set}
use Rattle.std.proofs.Math.Seq.{get_or-set_other}
use Rattle.reader_parts.specs.Slots.{process_slot, first_channel, first_clock, first_location, name_slots}
use Rattle.reader_record.specs.declared.Name.{Name}
use Rattle.reader_record.specs.declared.Channel.{Channel}
use Rattle.reader_record.specs.declared.Direction.TheVariants.{Unused}
use Rattle.reader_record.specs.declared.Constraint.{Constraint}
use Rattle.reader_record.specs.declared.Location.{Location}
use Rattle.reader_record.specs.declared.Edge.{Edge}
use Rattle.reader_record.specs.declared.Label.{Label}
use Rattle.reader_record.specs.declared.Text.{Text}
use Rattle.reader_record.specs.Record.{no_name, no_channel, no_location, no_edge, channel}
use Rattle.reader_record.specs.Formed.{agrees, FormedAssignments}
use Rattle.reader_edges.specs.Labels.{fits, label_of}
use Rattle.reader_lists.specs.State.{with_channel, with_clock, with_location, with_edge, with_init, marked}
use Rattle.reader_formed.specs.Promise.{Within, Unlike, channel_name, clock_name, location_name}
use Rattle.reader_formed.proofs.Cases.{stored}
use Rattle.reader_formed.proofs.Declared.{slot}
use Rattle.reader_formed.proofs.Slots.{Kind, Known, Differ, one_more, elsewhere, renamed, differ_more}
use Rattle.reader_formed.proofs.Comparisons.{FormedComparisons}
use Rattle.reader_formed.proofs.Edges.{direction_at, label_channel, label_agrees, still_agrees}
use Rattle.limits.specs.Limits.{channel_limit, clock_limit, location_limit, edge_limit}

-- an edge of a text with so many clocks and locations, and with the first `count` of these channels
pub record FormedEdge (clocks locations count : ℕ) (channels : List Channel) (e : Edge) : Type 0 where
  pub guard : FormedComparisons clocks false e.guard
  pub source : e.source < locations
  pub target : e.target < locations
  pub direction : T (agrees e.label (direction_at channels (channel e.label - 1)))
  pub from_one : 0 < channel e.label
  pub declared : channel e.label ≤ count
  pub assigned : FormedAssignments clocks e.assignments

-- channel k, from 0, is the label of an edge
abbrev pub HasEdge : Text → ℕ → Type 0
HasEdge t k = (i : ℕ) × (i < t.edge_count) × (channel (get_or t.edges i no_edge).label ≡ k + 1)

-- the names: all slots, all names in them differ, and those of each kind are the record's
pub record NamesSoFar (s : List ℕ) (names : List Name) (t : Text) : Type 0 where
  pub size : length names ≡ name_slots
  pub differ : Differ s names
  pub channels : Kind s names first_channel channel_limit t.channel_count (channel_name t)
  pub clocks : Kind s names first_clock clock_limit t.clock_count (clock_name t)
  pub locations : Kind s names first_location location_limit t.location_count (location_name t)

-- the record; `chosen` is 1 once the start is chosen, 0 before
pub record TextSoFar (chosen : ℕ) (t : Text) : Type 0 where
  pub channels : length t.channels ≡ channel_limit
  pub clocks : length t.clocks ≡ clock_limit
  pub locations : length t.locations ≡ location_limit
  pub edges : length t.edges ≡ edge_limit
  pub few : t.edge_count ≤ edge_limit
  pub init : t.init + chosen ≤ t.location_count
  pub invariant :
      (l : ℕ) → l < t.location_count
      → FormedComparisons t.clock_count true (get_or t.locations l no_location).invariant
  pub edge :
      (i : ℕ) → i < t.edge_count
      → FormedEdge t.clock_count t.location_count t.channel_count t.channels
      (get_or t.edges i no_edge)
  pub used : (k : ℕ) → (direction_at t.channels k ≡ Unused → ⊥) → HasEdge t k

pub record SoFar (chosen : ℕ) (s : List ℕ) (names : List Name) (t : Text) : Type 0 where
  pub named : NamesSoFar s names t
  pub read : TextSoFar chosen t

-- more clocks, more locations and more channels break nothing
more_clocks :
    (m n : ℕ) (only : Bool) (c : Constraint) → m ≤ n → FormedComparisons m only c → FormedComparisons n only c
more_clocks m n only c h f = record {
  few = f.few;
  each = λ i l. let x = f.each i l in record { clock = omega (arith, x.clock); bound = x.bound; sign = x.sign };
}

-- what is asked of a name that is added, in a slot k
pub record Fresh (s : List ℕ) (names : List Name) (n : Name) : Type 0 where
  pub within : Within s n
  pub other : (i : ℕ) → i < name_slots → Unlike s (slot names i) n

module _ (chosen : ℕ) (s : List ℕ) (names : List Name) (t : Text) (h : SoFar chosen s names t) where
  module _ (n : Name) (f : Fresh s names n) where
    differ_at : (k : ℕ) → k < name_slots → Differ s (set names k n)
    differ_at k r = differ_more s names k n h.named.size r f.within.some f.other h.named.differ

    size_at : (k : ℕ) → length (set names k n) ≡ name_slots
    size_at k = length-set names k n ∙ h.named.size

    -- the names of another kind than that of slot k
    stays :
        {first limit count : ℕ} {named : ℕ → Name} (k : ℕ) → k < name_slots → ((i : ℕ) → i < limit → first + i ≡ k → ⊥)
        → Kind s names first limit count named → Kind s (set names k n) first limit count named
    stays k l off = elsewhere s names k n (omega (arith, h.named.size)) off

    -- the process
    pub process_more : SoFar chosen s (set names (process_slot + 0) n) t
    process_more = record {
      read = h.read;
      named = record {
        size = size_at process_slot;
        differ = differ_at process_slot (omega arith);
        channels = stays process_slot (omega arith) (λ i l e. omega arith) h.named.channels;
        clocks = stays process_slot (omega arith) (λ i l e. omega arith) h.named.clocks;
        locations = stays process_slot (omega arith) (λ i l e. omega arith) h.named.locations;
      };
    }

    pub channel_more :
        t.channel_count < channel_limit
        → SoFar chosen s (set names (first_channel + t.channel_count) n) (with_channel t n)
    unfolding with_channel
    channel_more r = record {
      read = record {
        channels = length-set t.channels t.channel_count _ ∙ h.read.channels;
        clocks = h.read.clocks;
        locations = h.read.locations;
        edges = h.read.edges;
        few = h.read.few;
        init = h.read.init;
        invariant = h.read.invariant;
        edge = λ i l. let e = h.read.edge i l in
            record {
              guard = e.guard;
              source = e.source;
              target = e.target;
              direction = stored (λ (c : Channel). T (agrees (label i) c.direction))
                  t.channels t.channel_count (channel (label i) - 1) new no_channel
                  (omega (arith, h.read.channels))
                  (λ q. absurd (omega (arith, e.from_one, e.declared)))
                  (λ _. e.direction);
              from_one = e.from_one;
              declared = omega (arith, e.declared);
              assigned = e.assigned;
            };
        used = λ k. stored (λ (c : Channel). (c.direction ≡ Unused → ⊥) → HasEdge t k)
            t.channels t.channel_count k new no_channel
            (omega (arith, h.read.channels))
            (λ _ q. absurd (q refl))
            (λ _. h.read.used k);
      };
      named = record {
        size = size_at (first_channel + t.channel_count);
        differ = differ_at (first_channel + t.channel_count) (omega arith);
        channels = one_more s names _ n (omega (arith, h.named.size)) r f.within
            (name (get_or-set_same t.channels t.channel_count new no_channel (omega (arith, h.read.channels))))
            (λ i l. name (get_or-set_other t.channels t.channel_count i new no_channel (λ e. omega arith)))
            h.named.channels;
        clocks = stays (first_channel + t.channel_count) (omega arith) (λ i l e. omega arith) h.named.clocks;
        locations = stays (first_channel + t.channel_count) (omega arith) (λ i l e. omega arith)
            h.named.locations;
      };
    }
      where
        new : Channel
        new = record { name = n; direction = Unused }

        label : ℕ → Label
        label i = (get_or t.edges i no_edge).label

        name : {c d : Channel} → c ≡ d → c.name ≡ d.name
        name e = rw e

    pub clock_more :
        t.clock_count < clock_limit
        → SoFar chosen s (set names (first_clock + t.clock_count) n) (with_clock t n)
    unfolding with_clock
    clock_more r = record {
      read = record {
        channels = h.read.channels;
        clocks = length-set t.clocks t.clock_count n ∙ h.read.clocks;
        locations = h.read.locations;
        edges = h.read.edges;
        few = h.read.few;
        init = h.read.init;
        invariant = λ l q.
            more_clocks t.clock_count (t.clock_count + 1) true _ (omega arith) (h.read.invariant l q);
        edge = λ i l. let e = h.read.edge i l in
            record {
              guard = more_clocks t.clock_count (t.clock_count + 1) false _ (omega arith) e.guard;
              source = e.source;
              target = e.target;
              direction = e.direction;
              from_one = e.from_one;
              declared = e.declared;
              assigned = record {
                clock = λ k q. omega (arith, e.assigned.clock k q);
                written = e.assigned.written;
                allowed = e.assigned.allowed;
              };
            };
        used = h.read.used;
      };
      named = record {
        size = size_at (first_clock + t.clock_count);
        differ = differ_at (first_clock + t.clock_count) (omega arith);
        channels = stays (first_clock + t.clock_count) (omega arith) (λ i l e. omega arith) h.named.channels;
        clocks = one_more s names _ n (omega (arith, h.named.size)) r f.within
            (get_or-set_same t.clocks t.clock_count n no_name (omega (arith, h.read.clocks)))
            (λ i l. get_or-set_other t.clocks t.clock_count i n no_name (λ e. omega arith))
            h.named.clocks;
        locations = stays (first_clock + t.clock_count) (omega arith) (λ i l e. omega arith) h.named.locations;
      };
    }

    -- a location's name leaves the clocks known
    pub clocks_stay :
        t.location_count < location_limit
        → Known s (set names (first_location + t.location_count) n) first_clock clock_limit t.clock_count
    clocks_stay r = record {
      size = size_at (first_location + t.location_count);
      named = clock_name t;
      kind = stays (first_location + t.location_count) (omega arith) (λ i l e. omega arith) h.named.clocks;
    }

    pub location_more :
        (c : Constraint) → FormedComparisons t.clock_count true c → t.location_count < location_limit
        → SoFar chosen s (set names (first_location + t.location_count) n) (with_location t n c)
    unfolding with_location clocks_stay
    location_more c g r = record {
      read = record {
        channels = h.read.channels;
        clocks = h.read.clocks;
        locations = length-set t.locations t.location_count _ ∙ h.read.locations;
        edges = h.read.edges;
        few = h.read.few;
        init = omega (arith, h.read.init);
        invariant = λ l q. stored (λ (x : Location). FormedComparisons t.clock_count true x.invariant)
            t.locations t.location_count l new no_location
            (omega (arith, h.read.locations))
            (λ _. g)
            (λ e. h.read.invariant l (omega arith));
        edge = λ i l. let e = h.read.edge i l in
            record {
              guard = e.guard;
              source = omega (arith, e.source);
              target = omega (arith, e.target);
              direction = e.direction;
              from_one = e.from_one;
              declared = e.declared;
              assigned = e.assigned;
            };
        used = h.read.used;
      };
      named = record {
        size = size_at (first_location + t.location_count);
        differ = differ_at (first_location + t.location_count) (omega arith);
        channels = stays (first_location + t.location_count) (omega arith) (λ i l e. omega arith)
            h.named.channels;
        clocks = (clocks_stay r).kind;
        locations = one_more s names _ n (omega (arith, h.named.size)) r f.within
            (name (get_or-set_same t.locations t.location_count new no_location
            (omega (arith, h.read.locations))))
            (λ i l. name (get_or-set_other t.locations t.location_count i new no_location (λ e. omega arith)))
            h.named.locations;
      };
    }
      where
        new : Location
        new = record { name = n; invariant = c }

        name : {x y : Location} → x ≡ y → x.name ≡ y.name
        name e = rw e

-- the start
pub init_chosen :
    (s : List ℕ) (names : List Name) (t : Text) (i : ℕ) → i < t.location_count → SoFar 0 s names t
    → SoFar 1 s names (with_init t i)
unfolding with_init
init_chosen s names t i l h = record {
  named = record {
    size = h.named.size;
    differ = h.named.differ;
    channels = h.named.channels;
    clocks = h.named.clocks;
    locations = h.named.locations;
  };
  read = record {
    channels = h.read.channels;
    clocks = h.read.clocks;
    locations = h.read.locations;
    edges = h.read.edges;
    few = h.read.few;
    init = omega arith;
    invariant = h.read.invariant;
    edge = h.read.edge;
    used = h.read.used;
  };
}

-- one edge more, whose mark fits its channel; the channels keep their names
module _
    (chosen : ℕ) (s : List ℕ) (names : List Name) (t : Text) (h : SoFar chosen s names t)
    (e : Edge) (k : ℕ) (input : Bool) where
  marked_name :
      (c : ℕ) → k < channel_limit → (get_or (marked t.channels k input) c no_channel).name ≡ channel_name t c
  unfolding marked
  marked_name c r =
      stored (λ (x : Channel). x.name ≡ channel_name t c) t.channels k c _ no_channel
      (omega (arith, h.read.channels))
      (λ q. rw q)
      (λ _. refl)

  marked_size : length (marked t.channels k input) ≡ length t.channels
  unfolding marked
  marked_size = length-set t.channels k _

  marked_agrees :
      (f : Edge) → k < channel_limit → fits (direction_at t.channels k) input ≡ true
      → FormedEdge t.clock_count t.location_count t.channel_count t.channels f
      → FormedEdge t.clock_count t.location_count t.channel_count (marked t.channels k input) f
  unfolding marked
  marked_agrees f r fit g = record {
    guard = g.guard;
    source = g.source;
    target = g.target;
    direction = stored (λ (c : Channel). T (agrees f.label c.direction))
        t.channels k (channel f.label - 1) _ no_channel
        (omega (arith, h.read.channels))
        (λ q. still_agrees f.label (direction_at t.channels k) input fit (rw q at g.direction))
        (λ _. g.direction);
    from_one = g.from_one;
    declared = g.declared;
    assigned = g.assigned;
  }

  label_at : {f g : Edge} → f ≡ g → channel f.label ≡ channel g.label
  label_at q = rw q

  module _
      (same : e.label ≡ label_of input k) (below : k < t.channel_count)
      (guard : FormedComparisons t.clock_count false e.guard)
      (source : e.source < t.location_count) (target : e.target < t.location_count)
      (assigned : FormedAssignments t.clock_count e.assignments) where
    number : channel e.label ≡ k + 1
    number = rw same (label_channel input k)

    new_formed :
        FormedEdge t.clock_count t.location_count t.channel_count (marked t.channels k input) e
    unfolding marked
    new_formed = record {
      guard = guard;
      source = source;
      target = target;
      direction = stored (λ (c : Channel). T (agrees e.label c.direction))
          t.channels k (channel e.label - 1) _ no_channel
          (omega (arith, h.read.channels, h.named.channels.few))
          (λ _. rw same (label_agrees input k))
          (λ q. absurd (q (omega (arith, number))));
      from_one = omega (arith, number);
      declared = omega (arith, number);
      assigned = assigned;
    }

    -- the label of an edge so far is that of an edge with one more
    still_used : (j : ℕ) → t.edge_count < edge_limit → HasEdge t j → HasEdge (with_edge t e k input) j
    unfolding with_edge
    still_used j room (i, l, q) =
        (i, omega arith, label_at (get_or-set_other t.edges t.edge_count i e no_edge (λ z. omega arith)) ∙ q)

    newly_used : t.edge_count < edge_limit → HasEdge (with_edge t e k input) k
    unfolding with_edge
    newly_used room = (
      t.edge_count,
      omega arith,
      label_at (get_or-set_same t.edges t.edge_count e no_edge (omega (arith, h.read.edges))) ∙ number,
    )

    pub edge_more :
        fits (direction_at t.channels k) input ≡ true → t.edge_count < edge_limit
        → SoFar chosen s names (with_edge t e k input)
    unfolding with_edge marked
    edge_more fit room = record {
      named = record {
        size = h.named.size;
        differ = h.named.differ;
        channels = renamed s names _ (λ c. marked_name c low) h.named.channels;
        clocks = h.named.clocks;
        locations = h.named.locations;
      };
      read = record {
        channels = marked_size ∙ h.read.channels;
        clocks = h.read.clocks;
        locations = h.read.locations;
        edges = length-set t.edges t.edge_count e ∙ h.read.edges;
        few = omega arith;
        init = h.read.init;
        invariant = h.read.invariant;
        edge = λ i l. stored
            (FormedEdge t.clock_count t.location_count t.channel_count (marked t.channels k input))
            t.edges t.edge_count i e no_edge
            (omega (arith, h.read.edges))
            (λ _. new_formed)
            (λ q. marked_agrees (get_or t.edges i no_edge) low fit (h.read.edge i (omega arith)));
        used = λ j. stored (λ (c : Channel). (c.direction ≡ Unused → ⊥) → HasEdge (with_edge t e k input) j)
            t.channels k j _ no_channel
            (omega (arith, h.read.channels))
            (λ q _. rw q (newly_used room))
            (λ _ q. still_used j room (h.read.used j q));
      };
    }
      where
        low : k < channel_limit
        low = omega (arith, h.named.channels.few)
