-- Each part of a text keeps what holds so far.
use Rattle.std.proofs.Common.{leb-false}
use Rattle.std.specs.Prelude.{Bool, true, List, ℕ, zero, suc, Result, IfOk, leb}
use Rattle.reader_parts.specs.Slots.{first_channel, first_clock, first_location}
use Rattle.reader_tokens.specs.Kinds as kinds
use Rattle.reader_record.specs.declared.Name.{Name}
use Rattle.reader_record.specs.declared.Text.{Text}
use Rattle.reader_parts.specs.declared.Fault.{Fault}
use Rattle.reader_parts.specs.declared.Declaration.{Declaration}
use Rattle.reader_parts.specs.Stages.{◌>>=◌, take, ahead}
use Rattle.reader_parts.specs.Binds.{and_then, after}
use Rattle.reader_lists.specs.Lists.{Item}
use Rattle.reader_lists.specs.Lists.Item.{Channel, Clock, Location, Edge}
use Rattle.reader_lists.specs.State.{State}
use Rattle.reader_lists.specs.State.{next_token}
use Rattle.reader_lists.specs.Lists.{channel_item, clock_item, location_item, edge_item, one_item, limit, items_from, items}
use Rattle.reader_formed.proofs.Cases.{either}
use Rattle.reader_formed.proofs.Declared.{Declared, declared}
use Rattle.reader_formed.proofs.Slots.{Known}
use Rattle.reader_formed.proofs.Comparisons.{IsConstraintRead, optional_read}
use Rattle.reader_formed.proofs.Edges.{IsEdgeRead, edge_read}
use Rattle.reader_formed.proofs.State.{SoFar, Fresh, channel_more, clock_more, clocks_stay, location_more, edge_more}
use Rattle.limits.specs.Limits.{channel_limit, clock_limit, location_limit, edge_limit}

-- what holds of a state
abbrev pub Good : ℕ → List ℕ → State → Type 0
Good chosen s r = SoFar chosen s r.names r.text

-- what held at r holds of what is read from there
pub record Keeps (before after : ℕ) (s : List ℕ) (r : State) (q : Result State Fault) : Type 0 where
  pub good : Good before s r → IfOk q (Good after s)

module _ (s : List ℕ) where
  pub then : {a b c : ℕ} {r : State} (q : Result State Fault) (f : State → Result State Fault)
      → Keeps a b s r q → ((x : State) → Keeps b c s x (f x)) → Keeps a c s r (q >>= f)
  then {b = b} {c = c} q f x y = record { good = λ h. and_then q f (Good b s) (Good c s) (x.good h) (λ p. (y p).good) }

  pub next_keeps : {a : ℕ} (k : ℕ) (r : State) → Keeps a a s r (next_token s k r)
  unfolding next_token
  next_keeps {a} k r = record { good = λ h. after (take s r.place k) _ (Good a s) (λ p. h) }

  pub clocks_known :
      {a : ℕ} {names : List Name} {t : Text} → SoFar a s names t →
      Known s names first_clock clock_limit t.clock_count
  clocks_known h = record { size = h.named.size; named = _; kind = h.named.clocks }

  pub locations_known :
      {a : ℕ} {names : List Name} {t : Text} → SoFar a s names t →
      Known s names first_location location_limit t.location_count
  locations_known h = record { size = h.named.size; named = _; kind = h.named.locations }

  pub channels_known :
      {a : ℕ} {names : List Name} {t : Text} → SoFar a s names t →
      Known s names first_channel channel_limit t.channel_count
  channels_known h = record { size = h.named.size; named = _; kind = h.named.channels }

  pub fresh : {names : List Name} {first count limit : ℕ} {d : Declaration} → Declared s names first count limit d
      → Fresh s names d.name
  fresh x = record { within = x.name; other = x.other }

  module _ {a : ℕ} (r : State) where
    channel_keeps : Keeps a a s r (channel_item s r)
    unfolding channel_item
    channel_keeps =
        let n : ℕ = r.text.channel_count in
        record {
          good = λ h. and_then _ _ (Declared s r.names first_channel n channel_limit) (Good a s)
              (declared s r.names first_channel n channel_limit r.place)
              (λ d x. rw x.stored (channel_more a s r.names r.text h d.name (fresh x) x.room));
        }

    clock_keeps : Keeps a a s r (clock_item s r)
    unfolding clock_item
    clock_keeps =
        let n : ℕ = r.text.clock_count in
        record {
          good = λ h. and_then _ _ (Declared s r.names first_clock n clock_limit) (Good a s)
              (declared s r.names first_clock n clock_limit r.place)
              (λ d x. rw x.stored (clock_more a s r.names r.text h d.name (fresh x) x.room));
        }

    location_keeps : (period : ℕ) → Keeps a a s r (location_item period s r)
    unfolding location_item
    location_keeps period =
        let n : ℕ = r.text.location_count in
        record {
          good = λ h. and_then _ _ (Declared s r.names first_location n location_limit) (Good a s)
              (declared s r.names first_location n location_limit r.place)
              (λ d x. and_then _ _ (IsConstraintRead period s d.names true) (Good a s)
              (optional_read period kinds.opens true kinds.closes s d.end d.names)
              (λ i f.
              let known : Known s d.names first_clock clock_limit r.text.clock_count =
              rw x.stored (clocks_stay a s r.names r.text h d.name (fresh x) x.room) in
              rw x.stored (location_more a s r.names r.text h d.name (fresh x) i.constraint (f r.text.clock_count known) x.room)));
        }

    edge_keeps : (period : ℕ) → Keeps a a s r (edge_item period s r)
    unfolding edge_item
    edge_keeps period =
        let full : Bool = leb edge_limit r.text.edge_count in
        record {
          good = λ h. and_then _ _ (IsEdgeRead s r.names r.text.channels full) (Good a s)
              (edge_read period s r.place r.names r.text.channels full)
              (λ e x. edge_more a s r.names r.text h e.edge e.channel e.input x.label (x.known _ (channels_known h))
              (x.guard _ (clocks_known h)) (x.source _ (locations_known h)) (x.target _ (locations_known h))
              (x.assigned _ (clocks_known h)) x.right (leb-false edge_limit r.text.edge_count x.room));
        }

  module _ (period : ℕ) {a : ℕ} where
    item_keeps : (k : Item) (r : State) → Keeps a a s r (one_item period k s r)
    item_keeps Channel r = channel_keeps r
    item_keeps Clock r = clock_keeps r
    item_keeps Location r = location_keeps r period
    item_keeps Edge r = edge_keeps r period

    items_keep : (room : ℕ) (k : Item) (r : State) → Keeps a a s r (items_from period room k s r)
    unfolding items_from
    items_keep zero k r = item_keeps k r
    items_keep (suc room) k r =
        then (one_item period k s r) _ (item_keeps k r)
        (λ q. either (λ (p : Result State Fault). Keeps a a s q p) (ahead s q.place kinds.comma)
        (then (next_token s kinds.comma q) (items_from period room k s) (next_keeps kinds.comma q) (items_keep room k))
        (next_keeps kinds.semicolon q))

    pub list_keeps : (k : Item) (r : State) → Keeps a a s r (items period k s r)
    unfolding items
    list_keeps k r = items_keep (limit k) k r
