-- What was read of a list before a fault: its items, the one with the fault too where there is room for it. What is
-- missing of that one is a name of no bytes, an invariant of no comparison, and of an edge as `edge_so_far` says. A list
-- that is handed a fault has an item of which nothing was read.
use Rattle.std.specs.Prelude.{◌≡◌, List, ℕ, zero, suc, Result, Ok, Err, nat_le, if◌then◌else◌}
use Rattle.reader_tokens.specs.Kinds as kinds
use Rattle.reader_record.specs.declared.Name.{Name}
use Rattle.reader_record.specs.declared.Constraint.{Constraint}
use Rattle.reader_record.specs.declared.Text.{Text}
use Rattle.reader_parts.specs.declared.Fault.{Fault}
use Rattle.reader_parts.specs.declared.Declaration.{Declaration}
use Rattle.reader_parts.specs.Stages.{◌>>=◌, take, ahead_of}
use Rattle.reader_parts.specs.Names.{declare}
use Rattle.reader_parts.specs.SoFar.{read_or, name_so_far}
use Rattle.reader_constraints.specs.declared.ConstraintRead.{ConstraintRead}
use Rattle.reader_constraints.specs.Constraints.{blank_constraint, invariant}
use Rattle.reader_constraints.specs.SoFar.{invariant_so_far}
use Rattle.reader_edges.specs.Edges.{edge_next}
use Rattle.reader_edges.specs.SoFar.{edge_so_far}
use Rattle.reader_lists.specs.declared.Named.{Named}
use Rattle.reader_lists.specs.declared.Named.TheVariants as named
use Rattle.reader_lists.specs.State.{State}
use Rattle.reader_lists.specs.State.{state_of, with_channel, with_clock, with_location, with_edge}
use Rattle.reader_lists.specs.Lists.{Item}
use Rattle.reader_lists.specs.Lists.{limit, one_item}
use Rattle.reader_lists.specs.Lists.Item.{Channel, Clock, Location, Edge}
use Rattle.reader_lists.specs.Turns.{item, first_slot, count}
use Rattle.limits.specs.Limits.{edge_limit}

-- the declared names by their slots, and the record so far
pub record SoFar : Type 0 where
  pub names : List Name
  pub text : Text

-- the two as one
abbrev pub so_far : List Name → Text → SoFar
so_far names text = record { names = names; text = text }

-- a part of the text leads on from at, where h is read, to x, where q is, or is refused there; so_far says the same of
-- what is read, before a fault too
pub record Goes (part : State → Result State Fault) (so_far : Result ℕ Fault → SoFar → SoFar) (at : Result ℕ Fault)
    (h : SoFar) (x : Result ℕ Fault) (q : SoFar) : Type 0 where
  pub reads : (at >>= λ p. part (state_of h.names h.text p)) ≡ (x >>= λ p. Ok (state_of q.names q.text p))
  pub stops : so_far at h ≡ q

-- how many items of the kind k the record has
abbrev pub count_of : Named → Text → ℕ
count_of k t = count k t.channel_count t.clock_count t.location_count

-- one item of the kind k more, by its name; c is the invariant of a location
abbrev pub with_named : Named → Text → Name → Constraint → Text
with_named named.Channel t n c = with_channel t n
with_named named.Clock t n c = with_clock t n
with_named named.Location t n c = with_location t n c

-- the place behind a part, or its fault
abbrev pub place_of : Result State Fault → Result ℕ Fault
place_of r = r >>= λ q. Ok q.place

-- at one tick length, `period` (SPECIFICATION 4.7)
module _ (period : ℕ) where
  -- what may follow the name of an item: the invariant of a location
  unfoldable pub held_next : Named → List ℕ → ℕ → List Name → Result ConstraintRead Fault
  held_next named.Channel s p names = Ok (record { constraint = blank_constraint; end = p })
  held_next named.Clock s p names = Ok (record { constraint = blank_constraint; end = p })
  held_next named.Location s p names = invariant period s p names

  -- the same, what was read of it before a fault
  unfoldable pub held_so_far : Named → List ℕ → ℕ → List Name → Constraint
  held_so_far named.Channel s p names = blank_constraint
  held_so_far named.Clock s p names = blank_constraint
  held_so_far named.Location s p names = invariant_so_far period s (Ok p) names

  -- one item of the kind k more, by what its declaration gave: where there is no room for it, nothing
  abbrev pub declared_so_far : Named → List ℕ → Result ℕ Fault → SoFar → Result Declaration Fault → SoFar
  declared_so_far k s at h (Ok d) =
      let held = read_or (λ i. i.constraint) (held_next k s d.end d.names) (held_so_far k s d.end d.names) in
      so_far d.names (with_named k h.text d.name held)
  declared_so_far k s at h (Err f) =
      let named = so_far h.names (with_named k h.text (name_so_far s at) blank_constraint) in
      if nat_le (limit (item k)) (count_of k h.text) then h else named

  unfoldable pub named_so_far : Named → List ℕ → Result ℕ Fault → SoFar → SoFar
  named_so_far k s at h =
      declared_so_far k s at h (at >>= λ p. declare s p h.names (first_slot k) (count_of k h.text) (limit (item k)))

  -- one edge more, and the direction of its channel: where there is no room for it, nothing
  unfoldable pub edge_item_so_far : List ℕ → Result ℕ Fault → SoFar → SoFar
  edge_item_so_far s at h =
      let full = nat_le edge_limit h.text.edge_count in
      let e = at >>= λ p. edge_next period s p h.names h.text.channels full in
      let q = edge_so_far period s at h.names h.text.channels full in
      let given = so_far h.names (with_edge h.text q.edge q.channel q.input) in
      read_or (λ x. so_far h.names (with_edge h.text x.edge x.channel x.input)) e (if full then h else given)

  abbrev pub item_so_far : Item → List ℕ → Result ℕ Fault → SoFar → SoFar
  item_so_far Channel = named_so_far named.Channel
  item_so_far Clock = named_so_far named.Clock
  item_so_far Location = named_so_far named.Location
  item_so_far Edge = edge_item_so_far

  -- a list where there is room for so many more items
  unfoldable pub items_so_far_from : ℕ → Item → List ℕ → Result ℕ Fault → SoFar → SoFar
  items_so_far_from zero k s at h = item_so_far k s at h
  items_so_far_from (suc room) k s at h =
      let end = place_of (at >>= λ p. one_item period k s (state_of h.names h.text p)) in
      let q = item_so_far k s at h in
      let more = items_so_far_from room k s (end >>= λ p. take s p kinds.comma) q in
      if ahead_of s end kinds.comma then more else q

  unfoldable pub items_so_far : Item → List ℕ → Result ℕ Fault → SoFar → SoFar
  items_so_far k s at h = items_so_far_from (limit k) k s at h
