-- What was read of an edge before a fault: what is missing is 0 and an output, no comparison and no assignment. Of an
-- assignment with a fault, its clock is assigned what was read of its value.
use Rattle.std.specs.Prelude.{Bool, false, List, ℕ, zero, suc, Result, Ok, if◌then◌else◌, length}
use Rattle.reader_tokens.specs.Kinds as kinds
use Rattle.reader_record.specs.declared.Name.{Name}
use Rattle.reader_record.specs.declared.Channel.{Channel}
use Rattle.reader_record.specs.declared.Assignment.{Assignment}
use Rattle.reader_parts.specs.declared.Fault.{Fault}
use Rattle.reader_parts.specs.Stages.{◌>>=◌, take, ahead_of}
use Rattle.reader_parts.specs.Names.{use_name}
use Rattle.reader_parts.specs.Slots.{first_channel, first_clock, first_location}
use Rattle.reader_parts.specs.SoFar.{read_or}
use Rattle.reader_constraints.specs.Constraints.{constant, guard}
use Rattle.reader_constraints.specs.SoFar.{guard_so_far}
use Rattle.reader_edges.specs.declared.LabelSoFar.{LabelSoFar}
use Rattle.reader_edges.specs.declared.AssignSoFar.{AssignSoFar}
use Rattle.reader_edges.specs.declared.EdgeSoFar.{EdgeSoFar}
use Rattle.reader_edges.specs.Labels.{mark_next, label_of, label_next}
use Rattle.reader_edges.specs.Assigns.{no_assignments, with_assignment, assign_next, assigns}
use Rattle.limits.specs.Limits.{channel_limit, clock_limit, location_limit}

-- a channel, and whether its mark is that of an input
unfoldable pub label_so_far : List ℕ → Result ℕ Fault → List Name → LabelSoFar
label_so_far s at names =
    let synced = at >>= λ p. take s p kinds.sync in
    let channel = synced >>= λ p. use_name s p names first_channel channel_limit false in
    let mark = channel >>= λ u. mark_next s u.end in
    record { channel = read_or (λ u. u.number) channel 0; input = read_or (λ m. m.input) mark false }

-- at one tick length, `period` (SPECIFICATION 4.7)
module _ (period : ℕ) where
  -- a clock and its value
  unfoldable pub assign_so_far : List ℕ → Result ℕ Fault → List Name → AssignSoFar
  assign_so_far s at names =
      let clock = at >>= λ p. use_name s p names first_clock clock_limit false in
      let becomes = clock >>= λ u. take s u.end kinds.becomes in
      let given = becomes >>= constant period 0 s in
      record { clock = read_or (λ u. u.number) clock 0; value = read_or (λ a. a.value) given 0 }

  -- the assignments before, and so many more at most
  unfoldable pub assigns_so_far_from : ℕ → List ℕ → List Name → Result ℕ Fault → List Assignment → List Assignment
  assigns_so_far_from zero s names at before = before
  assigns_so_far_from (suc room) s names at before =
      let x = at >>= λ p. assign_next period s p names in
      let end = x >>= λ y. Ok y.end in
      let stopped = assign_so_far s at names in
      let all = read_or (λ y. with_assignment before y.clock y.value) x
      (with_assignment before stopped.clock stopped.value) in
      let more = assigns_so_far_from room s names (end >>= λ q. take s q kinds.comma) all in
      if ahead_of s end kinds.comma then more else all

  -- the assignments after `assign`, with those before. The counter never runs out, as that of `assigns_from`
  unfoldable pub assign_items_so_far : List ℕ → List Name → Result ℕ Fault → List Assignment → List Assignment
  assign_items_so_far s names at before = assigns_so_far_from (suc (length s)) s names at before

  -- the assignments of an edge, behind `assign`
  unfoldable pub assigns_so_far : List ℕ → Result ℕ Fault → List Name → List Assignment
  assigns_so_far s at names =
      let given = assign_items_so_far s names (at >>= λ p. take s p kinds.assign) no_assignments in
      if ahead_of s at kinds.assign then given else no_assignments

  -- an edge; `over`: it is one too many
  unfoldable pub edge_so_far : List ℕ → Result ℕ Fault → List Name → List Channel → Bool → EdgeSoFar
  edge_so_far s at names channels over =
      let source = at >>= λ p. use_name s p names first_location location_limit over in
      let arrow = source >>= λ u. take s u.end kinds.arrow in
      let target = arrow >>= λ p. use_name s p names first_location location_limit false in
      let opened = target >>= λ u. take s u.end kinds.opens in
      let given = opened >>= λ p. guard period s p names in
      let labelled = given >>= λ g. label_next s g.end names channels in
      let assigned = labelled >>= λ l. assigns period s l.end names in
      let label = label_so_far s (given >>= λ g. Ok g.end) names in
      record {
        channel = read_or (λ l. l.channel) labelled label.channel;
        input = read_or (λ l. l.input) labelled label.input;
        edge = record {
          source = read_or (λ u. u.number) source 0;
          target = read_or (λ u. u.number) target 0;
          guard = read_or (λ g. g.constraint) given (guard_so_far period s opened names);
          label = read_or (λ l. l.label) labelled (label_of label.input label.channel);
          assignments = read_or (λ a. a.assignments) assigned (assigns_so_far s (labelled >>= λ l. Ok l.end) names);
        };
      }
