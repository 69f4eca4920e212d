-- The channel of an edge that is read is one that a text has room for, beside a fault too, and the clock of an
-- assignment; no edge is read where it is one too many.
use Rattle.std.specs.Prelude.{◌≡◌, Bool, false, List, ℕ, ◌<◌, Result, Ok, Err, IfOk, get_or}
use Rattle.std.proofs.Common.{arith}
use Rattle.reader_tokens.specs.Kinds as kinds
use Rattle.reader_record.specs.Record.{no_channel}
use Rattle.reader_record.specs.declared.Name.{Name}
use Rattle.reader_record.specs.declared.Channel.{Channel}
use Rattle.reader_parts.specs.declared.Fault.{Fault}
use Rattle.reader_parts.specs.declared.Use.{Use}
use Rattle.reader_parts.specs.Binds.{and_then, after}
use Rattle.reader_parts.specs.Stages.{◌>>=◌, take}
use Rattle.reader_parts.specs.SoFar.{read_or}
use Rattle.reader_parts.specs.Names.{use_name}
use Rattle.reader_parts.specs.Slots.{first_channel, first_clock, first_location}
use Rattle.reader_parts.specs.Facts.{use_small, use_not_over}
use Rattle.reader_constraints.specs.declared.ConstraintRead.{ConstraintRead}
use Rattle.reader_constraints.specs.Constraints.{constant, guard}
use Rattle.reader_edges.specs.declared.LabelRead.{LabelRead}
use Rattle.reader_edges.specs.declared.AssignRead.{AssignRead}
use Rattle.reader_edges.specs.declared.EdgeRead.{EdgeRead}
use Rattle.reader_edges.specs.Labels.{mark_next, mark_judged, fits, label_next}
use Rattle.reader_edges.specs.Assigns.{assign_next, assigns}
use Rattle.reader_edges.specs.Edges.{edge_next}
use Rattle.reader_edges.specs.SoFar.{label_so_far, edge_so_far}
use Rattle.limits.specs.Limits.{channel_limit, clock_limit, location_limit}

abbrev Labelled : LabelRead → Type 0
Labelled r = r.channel < channel_limit

abbrev Assigned : AssignRead → Type 0
Assigned r = r.clock < clock_limit

abbrev Led : EdgeRead → Type 0
Led r = r.channel < channel_limit

module _ (s : List ℕ) (p : ℕ) (names : List Name) where
  label_small : (channels : List Channel) → IfOk (label_next s p names channels) Labelled
  unfolding label_next
  label_small channels =
      after (take s p kinds.sync) _ Labelled
      (λ a. and_then (use_name s a names first_channel channel_limit false) _ (λ u. u.number < channel_limit) Labelled
      (use_small s names first_channel channel_limit false a)
      (λ u h. after (mark_next s u.end) _ Labelled
      (λ m. after (mark_judged (fits (get_or channels u.number no_channel).direction m.input) u.place m.end) _ Labelled
      (λ b. after (take s b kinds.semicolon) _ Labelled (λ q. h)))))

  module _ (period : ℕ) where
    pub clock_small : IfOk (assign_next period s p names) Assigned
    unfolding assign_next
    clock_small =
        and_then (use_name s p names first_clock clock_limit false) _ (λ u. u.number < clock_limit) Assigned
        (use_small s names first_clock clock_limit false p)
        (λ u h. after (take s u.end kinds.becomes) _ Assigned
        (λ a. after (constant period 0 s a) _ Assigned (λ g. h)))

module _ (period : ℕ) (s : List ℕ) (p : ℕ) (names : List Name) (channels : List Channel) (over : Bool) where
  pub channel_small : IfOk (edge_next period s p names channels over) Led
  unfolding edge_next
  channel_small =
      after (use_name s p names first_location location_limit over) _ Led
      (λ x. after (take s x.end kinds.arrow) _ Led
      (λ a. after (use_name s a names first_location location_limit false) _ Led
      (λ y. after (take s y.end kinds.opens) _ Led
      (λ b. after (guard period s b names) _ Led
      (λ g. and_then (label_next s g.end names channels) _ Labelled Led (label_small s g.end names channels)
      (λ l h. after (assigns period s l.end names) _ Led
      (λ z. after (take s z.end kinds.closes) _ Led (λ q. h))))))))

  abbrev Room : EdgeRead → Type 0
  Room r = over ≡ false

  -- no edge is read where it is one too many
  pub edge_not_over : IfOk (edge_next period s p names channels over) Room
  unfolding edge_next
  edge_not_over =
      and_then (use_name s p names first_location location_limit over) _ (λ u. over ≡ false) Room
      (use_not_over s names first_location location_limit over p)
      (λ x h. after (take s x.end kinds.arrow) _ Room
      (λ a. after (use_name s a names first_location location_limit false) _ Room
      (λ y. after (take s y.end kinds.opens) _ Room
      (λ b. after (guard period s b names) _ Room
      (λ g. after (label_next s g.end names channels) _ Room
      (λ l. after (assigns period s l.end names) _ Room
      (λ z. after (take s z.end kinds.closes) _ Room (λ q. h))))))))

-- the same behind a stage
module _
    (period : ℕ) (s : List ℕ) (at : Result ℕ Fault) (names : List Name) (channels : List Channel) (over : Bool)
  where
    pub channel_at : IfOk (at >>= λ p. edge_next period s p names channels over) Led
    channel_at = after at _ Led (λ p. channel_small period s p names channels over)

    pub edge_room : IfOk (at >>= λ p. edge_next period s p names channels over) (λ _. over ≡ false)
    edge_room = after at _ (λ _. over ≡ false) (λ p. edge_not_over period s p names channels over)

-- the channel of a label that has a fault
module _ (s : List ℕ) (names : List Name) where
  channel_read : (u : Result Use Fault) → IfOk u (λ v. v.number < channel_limit)
      → read_or (λ v. v.number) u 0 < channel_limit
  channel_read (Ok v) h = h
  channel_read (Err f) h = omega arith

  pub label_stopped : (at : Result ℕ Fault) → (label_so_far s at names).channel < channel_limit
  unfolding label_so_far
  label_stopped at = by (at >>= λ p. take s p kinds.sync)
    where
      by : (a : Result ℕ Fault)
          → read_or (λ v. v.number) (a >>= λ p. use_name s p names first_channel channel_limit false) 0 < channel_limit
      by (Err f) = omega arith
      by (Ok p) = channel_read (use_name s p names first_channel channel_limit false)
          (use_small s names first_channel channel_limit false p)

-- that of an edge that has one
module _
    (period : ℕ) (s : List ℕ) (at : Result ℕ Fault) (names : List Name) (channels : List Channel) (over : Bool)
  where
    pub stopped_small : (edge_so_far period s at names channels over).channel < channel_limit
    unfolding edge_so_far
    stopped_small = by (at >>= (λ p. use_name s p names first_location location_limit over)
        >>= (λ u. take s u.end kinds.arrow)
        >>= (λ p. use_name s p names first_location location_limit false)
        >>= (λ u. take s u.end kinds.opens)
        >>= λ p. guard period s p names)
      where
        labelled : (p : ℕ) (l : Result LabelRead Fault) → IfOk l Labelled
            → read_or (λ x. x.channel) l (label_so_far s (Ok p) names).channel < channel_limit
        labelled p (Ok l) h = h
        labelled p (Err f) h = label_stopped s names (Ok p)

        by : (g : Result ConstraintRead Fault)
            → read_or (λ l. l.channel) (g >>= λ x. label_next s x.end names channels)
            (label_so_far s (g >>= λ x. Ok x.end) names).channel < channel_limit
        by (Err f) = label_stopped s names (Err f)
        by (Ok x) = labelled x.end (label_next s x.end names channels) (label_small s x.end names channels)
