-- The items of the lists of a written text are read back: channels, clocks, locations and edges.
use Rattle.std.specs.Prelude.{◌≡◌, Bool, List, [], ◌∷◌, ◌++◌, ℕ, zero, suc, ◌+◌, ◌-◌, ◌≤◌, ◌<◌, eqb, get_or}
use Rattle.std.proofs.Math.Path.{refl}
use Rattle.std.proofs.Common.{sym, ◌∙◌}
use Rattle.std.proofs.Math.Bool.{true, false}
use native.Mathlib.Omega.{arith}
use Rattle.std.proofs.Math.ListN.{length, length-set}
use borrow.Author.Tests.{lt-leb, eq-eqb, ne_eqb, eqb-true}
use Rattle.reader_tokens.specs.Scan.{bytes, is_letter}
use Rattle.limits.specs.Limits.{shortest_tick, channel_limit, clock_limit, location_limit, edge_limit}
use Rattle.reader_record.specs.Record.{no_name, no_channel, no_location, no_edge, edge, invariant_of, channel}
use Rattle.reader_record.specs.declared.Name.{Name}
use Rattle.reader_record.specs.declared.Direction.TheVariants as direction
use Rattle.reader_record.specs.declared.Channel.{Channel}
use Rattle.reader_record.specs.declared.Label.{Label}
use Rattle.reader_record.specs.declared.Label.TheVariants.{Input, Output}
use Rattle.reader_record.specs.declared.Location.{Location}
use Rattle.reader_record.specs.declared.Edge.{Edge}
use Rattle.reader_record.specs.declared.Text.{Text}
use Rattle.reader_parts.specs.Slots.{first_channel, first_clock, first_location}
use Rattle.reader_edges.specs.Labels.{fits}
use Rattle.reader_lists.specs.State.{State}
use Rattle.reader_lists.specs.State.{with_channel, with_clock, with_location, with_edge, marked, direction_by}
use Rattle.reader_lists.specs.Lists.{channel_item, clock_item, location_item, edge_item}
use Rattle.reader_formed.proofs.Cases.{stored}
use Rattle.written.specs.Spaced.{Tokens}
use Rattle.written.specs.Written.{clock_called, location_called, constraint_tokens, location_tokens, edge_tokens}
use Rattle.written.proofs.Same.{Spells, SameConstraint, SameEdge, is_input_label, label_direction, direction_after}
use Rattle.written.proofs.Good.{IsName, Readable}
use Rattle.written.proofs.Names.{name_fine, called_name}
use Rattle.written.proofs.Steps.{then_read}
use Rattle.written.proofs.Slots.{Declares, name_declared}
use Rattle.written.proofs.Constraints.{ConstraintReads, invariant_read}
use Rattle.written.proofs.Edges.{NamesKnown, EdgeReads, edge_tokens_read}
use Rattle.written.proofs.Lists.{Reads, ReadsItem}
use Rattle.written.proofs.Stages.{GoodText, DeclaredNames, channels_found, clocks_found, locations_found, channel_fresh, channel_added, clock_fresh, clock_added, location_fresh, location_added}

-- so many channels are read, and so many edges that use them
pub record ChannelsRead (s : List ℕ) (words : List (List ℕ)) (t : Text) (c e : ℕ) (xs : List Channel)
    (n : ℕ) : Type 0 where
  pub size : length xs ≡ channel_limit
  pub count : n ≡ c
  pub name : (i : ℕ) → i < c → Spells s (get_or xs i no_channel).name (get_or words i [])
  pub direction_is : (i : ℕ) → i < c → (get_or xs i no_channel).direction ≡ direction_after t e i

pub record ClocksRead (s : List ℕ) (u k : ℕ) (xs : List Name) (n : ℕ) : Type 0 where
  pub size : length xs ≡ clock_limit
  pub count : n ≡ k
  pub name : (i : ℕ) → i < k → Spells s (get_or xs i no_name) (clock_called u i)

pub record LocationsRead (s : List ℕ) (u : ℕ) (t : Text) (l : ℕ) (xs : List Location) (n : ℕ) : Type 0 where
  pub size : length xs ≡ location_limit
  pub count : n ≡ l
  pub name : (i : ℕ) → i < l → Spells s (get_or xs i no_location).name (location_called u i)
  pub invariant_is : (i : ℕ) → i < l → SameConstraint (invariant_of t i) (get_or xs i no_location).invariant

pub record EdgesRead (t : Text) (e : ℕ) (xs : List Edge) (n : ℕ) : Type 0 where
  pub size : length xs ≡ edge_limit
  pub count : n ≡ e
  pub same : (i : ℕ) → i < e → SameEdge t.clock_count (edge t i) (get_or xs i no_edge)

-- the record holds so many channels, clocks, locations and edges of the text t
pub record TextRead (s : List ℕ) (words : List (List ℕ)) (u : ℕ) (t : Text) (c k l e : ℕ) (x : Text) : Type 0 where
  pub channels : ChannelsRead s words t c e x.channels x.channel_count
  pub clocks : ClocksRead s u k x.clocks x.clock_count
  pub locations : LocationsRead s u t l x.locations x.location_count
  pub edges : EdgesRead t e x.edges x.edge_count

-- the names and the record so far
pub record Stage (s : List ℕ) (words : List (List ℕ)) (u : ℕ) (t : Text) (p : Bool) (c k l e : ℕ) (names : List Name)
    (x : Text)
    : Type 0 where
  pub names_are : DeclaredNames s words u t p c k l names
  pub text_is : TextRead s words u t c k l e x

fits_label : (a : Label) → fits (label_direction a) (is_input_label a) ≡ true
unfolding fits label_direction is_input_label
fits_label (Input c) = refl
fits_label (Output c) = refl

direction_same : (a : Label) → direction_by (is_input_label a) ≡ label_direction a
unfolding direction_by label_direction is_input_label
direction_same (Input c) = refl
direction_same (Output c) = refl

-- the edges before use the channel with the same mark
fits_before : (t : Text) → Readable t → (e : ℕ) → e ≤ t.edge_count → (j : ℕ) → j < t.edge_count
    → fits (direction_after t e (channel (edge t j).label - 1)) (is_input_label (edge t j).label) ≡ true
unfolding direction_after fits
fits_before t formed zero h j l = refl
fits_before t formed (suc e) h j l =
    by (fits_before t formed e (omega arith) j l)
    (eqb (channel (edge t e).label - 1) (channel (edge t j).label - 1)) refl
  where
    by : fits (direction_after t e (channel (edge t j).label - 1)) (is_input_label (edge t j).label) ≡ true
        → (b : Bool) → eqb (channel (edge t e).label - 1) (channel (edge t j).label - 1) ≡ b
        → fits (direction_after t (suc e) (channel (edge t j).label - 1)) (is_input_label (edge t j).label) ≡ true
    by again false q = rw q again
    by again true q =
        let k : e < t.edge_count = omega arith in
        let z : channel (edge t e).label ≡ channel (edge t j).label =
        omega (
          arith,
          eqb-true (channel (edge t e).label - 1) (channel (edge t j).label - 1) q,
          (formed.label e k).0,
          (formed.label j l).0,
        ) in
        rw (q, sym (formed.one_mark e j k l z)) (fits_label (edge t e).label)

module _ {s : List ℕ} {words : List (List ℕ)} {u : ℕ} {t : Text} (good : GoodText words u t) where
  pub channel_item_read : (i : ℕ) → i < t.channel_count
      → ReadsItem s (λ i. get_or words i [] ∷ []) (λ i. Stage s words u t false i 0 0 0) (channel_item s) i
  unfolding channel_item with_channel direction_after
  channel_item_read i h w j f apart ws r b =
      let old : ChannelsRead s words t i 0 r.text.channels r.text.channel_count =
      b.holds.text_is.channels in
      let e : r.text.channel_count ≡ i = old.count in
      let m : IsName (get_or words i []) = good.names.own.name i h in
      let few : i < channel_limit = omega (arith, good.channels) in
      rw e (then_read _ _ (Declares s (get_or words i []) (w ∷ ws) r.names (first_channel + i))
      (Reads s (w ∷ ws) (Stage s words u t false (suc i) 0 0 0))
      (name_declared r.names (name_fine (get_or words i []) m) m.few first_channel channel_limit i few
      (channel_fresh good b.holds.names_are h) b.before)
      (λ y d.
      let n : Name = y.name in
      let new : Channel = record { name = n; direction = direction.Unused } in
      record {
        before = d.before;
        holds = record {
          names_are = rw d.names_are (channel_added good b.holds.names_are h n d.spells);
          text_is = record {
            channels = record {
              size = length-set r.text.channels i new ∙ old.size;
              count = omega arith;
              name = λ q l. stored (λ (x : Channel). Spells s x.name (get_or words q []))
                  r.text.channels i q new no_channel
                  (omega (arith, old.size)) (λ z. rw z d.spells) (λ z. old.name q (omega arith));
              direction_is =
                  λ q l. stored (λ (x : Channel). x.direction ≡ direction.Unused)
                  r.text.channels i q new no_channel
                  (omega (arith, old.size)) (λ z. refl) (λ z. old.direction_is q (omega arith));
            };
            clocks = b.holds.text_is.clocks;
            locations = b.holds.text_is.locations;
            edges = b.holds.text_is.edges;
          };
        };
      }))

  pub clock_item_read : (c i : ℕ) → i < t.clock_count
      → ReadsItem s (λ i. clock_called u i ∷ []) (λ i. Stage s words u t true c i 0 0) (clock_item s) i
  unfolding clock_item with_clock is_letter
  clock_item_read c i h w j f apart ws r b =
      let old : ClocksRead s u i r.text.clocks r.text.clock_count = b.holds.text_is.clocks in
      let e : r.text.clock_count ≡ i = old.count in
      let few : i < clock_limit = omega (arith, good.clocks) in
      let m : IsName (clock_called u i) = called_name "c" refl u i good.underscores (omega arith) in
      rw e (then_read _ _ (Declares s (clock_called u i) (w ∷ ws) r.names (first_clock + i))
      (Reads s (w ∷ ws) (Stage s words u t true c (suc i) 0 0))
      (name_declared r.names (name_fine (clock_called u i) m) m.few first_clock clock_limit i few
      (clock_fresh good b.holds.names_are h) b.before)
      (λ y d.
      let n : Name = y.name in
      record {
        before = d.before;
        holds = record {
          names_are = rw d.names_are (clock_added good b.holds.names_are h n d.spells);
          text_is = record {
            channels = b.holds.text_is.channels;
            clocks = record {
              size = length-set r.text.clocks i n ∙ old.size;
              count = omega arith;
              name = λ q l. stored (λ (x : Name). Spells s x (clock_called u q)) r.text.clocks i q n no_name
                  (omega (arith, old.size)) (λ z. rw z d.spells) (λ z. old.name q (omega arith));
            };
            locations = b.holds.text_is.locations;
            edges = b.holds.text_is.edges;
          };
        };
      }))

  module _ (formed : Readable t) where
    pub location_item_read : (c i : ℕ) → i < t.location_count
        → ReadsItem s (location_tokens u t) (λ i. Stage s words u t true c t.clock_count i 0)
        (location_item shortest_tick s) i
    unfolding location_item with_location location_tokens is_letter
    location_item_read c i h w j f apart ws r b =
        let old : LocationsRead s u t i r.text.locations r.text.location_count =
        b.holds.text_is.locations in
        let e : r.text.location_count ≡ i = old.count in
        let few : i < location_limit = omega (arith, good.locations) in
        let m : IsName (location_called u i) = called_name "l" refl u i good.underscores (omega arith) in
        let g : Tokens = constraint_tokens (bytes "{") (bytes "}") u (invariant_of t i) ++ (w ∷ ws) in
        let read : State → Type 0 = Reads s (w ∷ ws) (Stage s words u t true c t.clock_count (suc i) 0) in
        rw e (then_read _ _ (Declares s (location_called u i) g r.names (first_location + i)) read
        (name_declared r.names (name_fine (location_called u i) m) m.few first_location location_limit i few
        (location_fresh good b.holds.names_are h) b.before)
        (λ y d.
        let after : DeclaredNames s words u t true c t.clock_count (suc i) y.names =
        rw d.names_are (location_added good b.holds.names_are h y.name d.spells) in
        then_read _ _ (ConstraintReads s (w ∷ ws) (invariant_of t i)) read
        (invariant_read u (clocks_found good after (omega arith)) good.clocks (invariant_of t i)
        (formed.invariant i h)
        (λ q l. formed.upper i q h l) f apart ws d.before)
        (λ x v.
        let new : Location = record { name = y.name; invariant = x.constraint } in
        record {
          before = v.before;
          holds = record {
            names_are = after;
            text_is = record {
              channels = b.holds.text_is.channels;
              clocks = b.holds.text_is.clocks;
              locations = record {
                size = length-set r.text.locations i new ∙ old.size;
                count = omega arith;
                name = λ q l. stored (λ (x : Location). Spells s x.name (location_called u q))
                    r.text.locations i q new
                    no_location (omega (arith, old.size)) (λ z. rw z d.spells) (λ z. old.name q (omega arith));
                invariant_is = λ q l. stored (λ (x : Location). SameConstraint (invariant_of t q) x.invariant)
                    r.text.locations i q new no_location (omega (arith, old.size)) (λ z. rw z v.same)
                    (λ z. old.invariant_is q (omega arith));
              };
              edges = b.holds.text_is.edges;
            };
          };
        })))

    pub edge_item_read : (i : ℕ) → i < t.edge_count
        → ReadsItem s (λ i. edge_tokens words u t.clock_count (edge t i))
        (λ i. Stage s words u t true t.channel_count t.clock_count t.location_count i)
        (edge_item shortest_tick s) i
    unfolding edge_item with_edge marked direction_after
    edge_item_read i h w j f apart ws r b =
        let old : EdgesRead t i r.text.edges r.text.edge_count = b.holds.text_is.edges in
        let uses : ChannelsRead s words t t.channel_count i r.text.channels r.text.channel_count =
        b.holds.text_is.channels in
        let n : r.text.edge_count ≡ i = old.count in
        let few : i < edge_limit = omega (arith, formed.edges) in
        let a : Label = (edge t i).label in
        let some : 0 < channel a = (formed.label i h).0 in
        let there : channel a ≤ t.channel_count = (formed.label i h).1 in
        let k : channel a - 1 < t.channel_count = omega arith in
        let d : DeclaredNames s words u t true t.channel_count t.clock_count t.location_count
        r.names =
        b.holds.names_are in
        let known : NamesKnown s r.names words u t.channel_count t.clock_count t.location_count =
        record {
          few_channels = good.channels;
          few_clocks = good.clocks;
          few_locations = good.locations;
          channel_names = channels_found good d (omega arith);
          clock_names = clocks_found good d (omega arith);
          location_names = locations_found good d (omega arith);
        } in
        rw (n, lt-leb edge_limit i few)
        (then_read _ _ (EdgeReads s (w ∷ ws) t.clock_count (edge t i))
        (Reads s (w ∷ ws) (Stage s words u t true t.channel_count t.clock_count t.location_count (suc i)))
        (edge_tokens_read words u known (edge t i)
        (record {
          source = formed.source i h;
          target = formed.target i h;
          guard_formed = formed.guard i h;
          some = some;
          declared = there;
          allowed = formed.assigned i h;
        })
        r.text.channels (rw (uses.direction_is (channel a - 1) k) (fits_before t formed i (omega arith) i h))
        (w ∷ ws) b.before)
        (λ y v.
        let new : Channel =
        record {
          name = (get_or r.text.channels (channel a - 1) no_channel).name;
          direction =
              direction_by (is_input_label a);
        } in
        let room : channel a - 1 < length r.text.channels = omega (arith, uses.size, good.channels) in
        rw (v.channel_is, v.input_is) (record {
          before = v.before;
          holds = record {
            names_are = d;
            text_is = record {
              channels = record {
                size = length-set r.text.channels (channel a - 1) new ∙ uses.size;
                count = uses.count;
                name = λ q l. stored (λ (x : Channel). Spells s x.name (get_or words q [])) r.text.channels
                    (channel a - 1) q
                    new no_channel room (λ z. rw (sym z) (uses.name q l)) (λ z. uses.name q l);
                direction_is =
                    λ q l. stored (λ (x : Channel). x.direction ≡ direction_after t (suc i) q) r.text.channels
                    (channel a - 1) q new no_channel room
                    (λ z. rw (eq-eqb (channel a - 1) q (sym z)) (direction_same a))
                    (λ z. rw (ne_eqb (channel a - 1) q (λ (e : channel a - 1 ≡ q). z (sym e)))
                    (uses.direction_is q l));
              };
              clocks = b.holds.text_is.clocks;
              locations = b.holds.text_is.locations;
              edges = record {
                size = length-set r.text.edges i y.edge ∙ old.size;
                count = omega arith;
                same = λ q l. stored (λ (x : Edge). SameEdge t.clock_count (edge t q) x) r.text.edges i q
                    y.edge no_edge
                    (omega (arith, old.size)) (λ z. rw z v.same) (λ z. old.same q (omega arith));
              };
            };
          };
        })))
