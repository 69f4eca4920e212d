-- The names of the channels while a text is read: names are added in the channels' list alone, and stay.
use Rattle.std.specs.Prelude.{◌≡◌, Bool, true, false, List, leb, ltb, length, get_or, set, Result, IfOk}
use Rattle.std.proofs.Math.Path.{refl}
use Rattle.std.proofs.Common.{sym, ap, ◌∙◌, arith}
use Rattle.std.proofs.lemmas.Result.{IfOk-weaker}
use Prim.Native.Nat.{ℕ, zero, suc, ◌<◌}
use Rattle.std.proofs.Math.ListN.{length-set}
use Rattle.std.proofs.Math.Seq.{set_out}
use borrow.Author.Tests.{leb-false, ltb-true, ltb-false}
use Rattle.reader_tokens.specs.Kinds as kinds
use Rattle.limits.specs.Limits.{channel_limit, clock_limit, location_limit, edge_limit}
use Rattle.reader_record.specs.Record.{no_channel}
use Rattle.reader_record.specs.declared.Name.{Name}
use Rattle.reader_record.specs.declared.Channel as channel
use Rattle.reader_record.specs.declared.Direction.TheVariants as direction
use Rattle.reader_record.specs.declared.Text.{Text}
use Rattle.reader_parts.specs.declared.Fault.{Fault}
use Rattle.reader_parts.specs.declared.NameRead.{NameRead}
use Rattle.reader_parts.specs.declared.Declaration.{Declaration}
use Rattle.reader_parts.specs.Slots.{first_channel, first_clock, first_location, name_slots}
use Rattle.reader_parts.specs.Stages.{◌>>=◌, take, ahead, name_next}
use Rattle.reader_parts.specs.Binds.{and_then, after}
use Rattle.reader_parts.specs.Names.{slot_of, declare_name, declare}
use Rattle.reader_constraints.specs.Constraints.{invariant}
use Rattle.reader_edges.specs.Edges.{edge_next}
use Rattle.reader_lists.specs.State.{State, next_token, with_channel, with_clock, with_location, with_edge, marked, direction_by}
use Rattle.reader_lists.specs.Lists.{Item, channel_item, clock_item, location_item, edge_item, one_item, limit, items_from, items}
use Rattle.reader_lists.specs.Lists.Item.{Channel, Clock, Location, Edge}
use Rattle.reader_formed.specs.Promise.{channel_name}
use Rattle.reader_formed.proofs.Cases.{split, either, stored}
use Rattle.written.proofs.Good.{IsName}
use Rattle.pairing.specs.Channels.{spelling}
use Rattle.written_names.specs.Names.{name_is}

-- the channels of the record have names
pub record NamedChannels (s : List ℕ) (t : Text) : Type 0 where
  pub size : length t.channels ≡ channel_limit
  pub name : (c : ℕ) → c < t.channel_count → IsName (spelling s (channel_name t c))

-- what is read from r keeps the names
pub record KeepsNames (s : List ℕ) (r : State) (q : Result State Fault) : Type 0 where
  pub named : NamedChannels s r.text → IfOk q (λ x. NamedChannels s x.text)

module _ (s : List ℕ) where
  pub then_keeps : {r : State} (q : Result State Fault) (f : State → Result State Fault) → KeepsNames s r q
      → ((x : State) → KeepsNames s x (f x)) → KeepsNames s r (q >>= f)
  then_keeps q f x y = record {
    named = λ h. and_then q f (λ p. NamedChannels s p.text) (λ p. NamedChannels s p.text) (x.named h) (λ p. (y p).named);
  }

  pub next_keeps_names : (k : ℕ) (r : State) → KeepsNames s r (next_token s k r)
  unfolding next_token
  next_keeps_names k r = record { named = λ h. after (take s r.place k) _ (λ p. NamedChannels s p.text) (λ p. h) }

  module _ (names : List Name) (first number limit : ℕ) where
    -- a name that is declared
    abbrev IsDeclared : Declaration → Type 0
    IsDeclared d = (number < limit) × IsName (spelling s d.name)

    declared_is : (r : NameRead) → IsName (spelling s r.name)
        → IfOk (declare_name s names first number limit r) IsDeclared
    unfolding declare_name
    declared_is r n =
        either P (ltb (slot_of s names r.name) name_slots) tt
        (split P (leb limit number) (λ _. tt) (λ e. (leb-false limit number e, n)))
      where
        P : Result Declaration Fault → Type 0
        P d = IfOk d IsDeclared

    declare_is : (p : ℕ) → IfOk (declare s p names first number limit) IsDeclared
    unfolding declare
    declare_is p = and_then (name_next s p) _ (λ r. IsName (spelling s r.name)) IsDeclared (name_is s p) declared_is

  -- a channel more
  channel_keeps : (r : State) → KeepsNames s r (channel_item s r)
  unfolding channel_item with_channel
  channel_keeps r = record {
    named = λ h. and_then _ _ (IsDeclared r.names first_channel n channel_limit) (λ x. NamedChannels s x.text)
        (declare_is r.names first_channel n channel_limit r.place)
        (λ d m. record {
          size = length-set r.text.channels n (new d.name) ∙ h.size;
          name = λ c l. stored (λ (x : channel.Channel). IsName (spelling s x.name)) r.text.channels n c
              (new d.name)
              no_channel (omega (arith, h.size, m.0))
              (λ _. m.1)
              (λ e. h.name c (omega arith));
        });
  }
    where
      n : ℕ
      n = r.text.channel_count

      new : Name → channel.Channel
      new m = record { name = m; direction = direction.Unused }

module _ (period : ℕ) (s : List ℕ) where
  channels_keep : (room : ℕ) (r : State) → KeepsNames s r (items_from period room Channel s r)
  unfolding items_from
  channels_keep zero r = channel_keeps s r
  channels_keep (suc room) r =
      then_keeps s (channel_item s r) _ (channel_keeps s r)
      (λ q. either (λ (p : Result State Fault). KeepsNames s q p) (ahead s q.place kinds.comma)
      (then_keeps s (next_token s kinds.comma q) (items_from period room Channel s) (next_keeps_names s kinds.comma q)
      (channels_keep room))
      (next_keeps_names s kinds.semicolon q))

  pub channel_list_keeps : (r : State) → KeepsNames s r (items period Channel s r)
  unfolding items
  channel_list_keeps r = channels_keep (limit Channel) r

-- the channels of two records have the same names
pub record SameNames (t x : Text) : Type 0 where
  pub size : length x.channels ≡ length t.channels
  pub count : x.channel_count ≡ t.channel_count
  pub name : (c : ℕ) → channel_name x c ≡ channel_name t c

pub names_self : (t : Text) → SameNames t t
names_self t = record { size = refl; count = refl; name = λ c. refl }

pub names_then : {t x y : Text} → SameNames t x → SameNames x y → SameNames t y
names_then a b = record { size = b.size ∙ a.size; count = b.count ∙ a.count; name = λ c. b.name c ∙ a.name c }

pub same_named : {s : List ℕ} {t x : Text} → SameNames t x → NamedChannels s t → NamedChannels s x
same_named {s} a n = record {
  size = a.size ∙ n.size;
  name = λ c l. rw (a.name c) (n.name c (omega (arith, a.count)));
}

-- a mark leaves the names
marked_length : (l : List channel.Channel) (k : ℕ) (input : Bool) → length (marked l k input) ≡ length l
unfolding marked
marked_length l k input = length-set l k _

marked_name : (l : List channel.Channel) (k c : ℕ) (input : Bool)
    → (get_or (marked l k input) c no_channel).name ≡ (get_or l c no_channel).name
unfolding marked
marked_name l k c input = by (ltb k (length l)) refl
  where
    new : channel.Channel
    new = record { name = (get_or l k no_channel).name; direction = direction_by input }

    by : (b : Bool) → ltb k (length l) ≡ b → (get_or (set l k new) c no_channel).name ≡ (get_or l c no_channel).name
    by true e = stored (λ (x : channel.Channel). x.name ≡ (get_or l c no_channel).name) l k c new no_channel
        (ltb-true k (length l) e)
        (λ q. ap (λ j. (get_or l j no_channel).name) (sym q)) (λ _. refl)
    by false e =
        ap (λ (m : List channel.Channel). (get_or m c no_channel).name) (set_out l k new (ltb-false k (length l) e))

-- what is read from r leaves the names of the channels
abbrev pub LeavesNames : State → Result State Fault → Type 0
LeavesNames r q = IfOk q (λ x. SameNames r.text x.text)

-- one after the other
pub leaves_then : (r : State) (q : Result State Fault) (f : State → Result State Fault) → LeavesNames r q
    → ((x : State) → LeavesNames x (f x)) → LeavesNames r (q >>= f)
leaves_then r q f x y =
    and_then q f (λ p. SameNames r.text p.text) (λ p. SameNames r.text p.text) x
    (λ p a. IfOk-weaker (f p) (λ z. SameNames p.text z.text) (λ z. SameNames r.text z.text) (λ z b. names_then a b) (y p))

module _ (period : ℕ) (s : List ℕ) where
  pub next_leaves : (k : ℕ) (r : State) → LeavesNames r (next_token s k r)
  unfolding next_token
  next_leaves k r = after (take s r.place k) _ (λ p. SameNames r.text p.text) (λ p. names_self r.text)

  clock_names : (r : State) → LeavesNames r (clock_item s r)
  unfolding clock_item with_clock
  clock_names r =
      after (declare s r.place r.names first_clock r.text.clock_count clock_limit) _ (λ q. SameNames r.text q.text)
      (λ d. record { size = refl; count = refl; name = λ c. refl })

  location_names : (r : State) → LeavesNames r (location_item period s r)
  unfolding location_item with_location
  location_names r =
      after (declare s r.place r.names first_location r.text.location_count location_limit) _
      (λ q. SameNames r.text q.text)
      (λ d. after (invariant period s d.end d.names) _ (λ q. SameNames r.text q.text)
      (λ i. record { size = refl; count = refl; name = λ c. refl }))

  edge_names : (r : State) → LeavesNames r (edge_item period s r)
  unfolding edge_item with_edge
  edge_names r =
      after (edge_next period s r.place r.names r.text.channels (leb edge_limit r.text.edge_count)) _
      (λ q. SameNames r.text q.text)
      (λ e. record {
        size = marked_length r.text.channels _ _;
        count = refl;
        name = λ c. marked_name r.text.channels _ c _;
      })

  module _ (k : Item) (one : (r : State) → LeavesNames r (one_item period k s r)) where
    items_names : (room : ℕ) (r : State) → LeavesNames r (items_from period room k s r)
    unfolding items_from
    items_names zero r = one r
    items_names (suc room) r =
        leaves_then r (one_item period k s r) _ (one r)
        (λ q. either (λ (p : Result State Fault). LeavesNames q p) (ahead s q.place kinds.comma)
        (leaves_then q (next_token s kinds.comma q) (items_from period room k s) (next_leaves kinds.comma q)
        (items_names room))
        (next_leaves kinds.semicolon q))

  pub clocks_names : (r : State) → LeavesNames r (items period Clock s r)
  unfolding items
  clocks_names = items_names Clock clock_names (limit Clock)

  pub locations_names : (r : State) → LeavesNames r (items period Location s r)
  unfolding items
  locations_names = items_names Location location_names (limit Location)

  pub edges_names : (r : State) → LeavesNames r (items period Edge s r)
  unfolding items
  edges_names = items_names Edge edge_names (limit Edge)
