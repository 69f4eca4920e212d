-- An edge by its parts: each stage keeps in the edge so far what it reads, and gives the place behind it. A stage
-- behind a fault keeps nothing. By `edge_parts` of proofs/Parts this comes to the edge, and to what was read of it.
use Rattle.std.specs.Prelude.{Bool, false, List, ℕ, Result, Ok, Err}
use Rattle.reader_tokens.specs.Kinds as kinds
use Rattle.reader_record.specs.declared.Name.{Name}
use Rattle.reader_record.specs.declared.Channel.{Channel}
use Rattle.reader_parts.specs.declared.Fault.{Fault}
use Rattle.reader_parts.specs.declared.Use.{Use}
use Rattle.reader_parts.specs.Stages.{◌>>=◌, take}
use Rattle.reader_parts.specs.Names.{use_name}
use Rattle.reader_parts.specs.Slots.{first_location}
use Rattle.reader_parts.specs.SoFar.{read_or}
use Rattle.reader_constraints.specs.Constraints.{blank_constraint, guard}
use Rattle.reader_constraints.specs.SoFar.{guard_so_far}
use Rattle.reader_edges.specs.declared.EdgeSoFar.{EdgeSoFar}
use Rattle.reader_edges.specs.Labels.{label_of, label_next}
use Rattle.reader_edges.specs.Assigns.{no_assignments, assigns}
use Rattle.reader_edges.specs.SoFar.{label_so_far, assigns_so_far}
use Rattle.limits.specs.Limits.{location_limit}

-- an edge of which nothing is read
unfoldable pub no_edge : EdgeSoFar
no_edge = record {
  channel = 0;
  input = false;
  edge = record {
    source = 0;
    target = 0;
    guard = blank_constraint;
    label = label_of false 0;
    assignments = no_assignments;
  };
}

module _ (s : List ℕ) (at : Result ℕ Fault) (names : List Name) where
  -- the location that the edge leaves
  abbrev pub source_of : Bool → Result Use Fault
  source_of over = at >>= λ p. use_name s p names first_location location_limit over

  -- the one that it leads to
  abbrev pub target_of : Bool → Result Use Fault
  target_of over =
      source_of over >>= (λ u. take s u.end kinds.arrow)
      >>= λ p. use_name s p names first_location location_limit false

  -- the place behind `{`
  unfoldable pub opened : Bool → Result ℕ Fault
  opened over = target_of over >>= λ u. take s u.end kinds.opens

  -- the edge with its locations
  unfoldable pub located : Bool → EdgeSoFar → EdgeSoFar
  located over x = record {
    channel = x.channel;
    input = x.input;
    edge = record {
      source = read_or (λ u. u.number) (source_of over) x.edge.source;
      target = read_or (λ u. u.number) (target_of over) x.edge.target;
      guard = x.edge.guard;
      label = x.edge.label;
      assignments = x.edge.assignments;
    };
  }

-- the place behind the label
unfoldable pub label_end : List ℕ → Result ℕ Fault → List Name → List Channel → Result ℕ Fault
label_end s at names channels = at >>= λ p. label_next s p names channels >>= λ l. Ok l.end

-- the edge with its label
unfoldable pub labelled : List ℕ → Result ℕ Fault → List Name → List Channel → EdgeSoFar → EdgeSoFar
labelled s (Err f) names channels x = x
labelled s (Ok p) names channels x =
    let read = label_next s p names channels in
    let label = label_so_far s (Ok p) names in
    record {
      channel = read_or (λ l. l.channel) read label.channel;
      input = read_or (λ l. l.input) read label.input;
      edge = record {
        source = x.edge.source;
        target = x.edge.target;
        guard = x.edge.guard;
        label = read_or (λ l. l.label) read (label_of label.input label.channel);
        assignments = x.edge.assignments;
      };
    }

-- at one tick length, `period` (SPECIFICATION 4.7)
module _ (period : ℕ) where
  -- the place behind the guard
  unfoldable pub guard_end : List ℕ → Result ℕ Fault → List Name → Result ℕ Fault
  guard_end s at names = at >>= λ p. guard period s p names >>= λ g. Ok g.end

  -- the edge with its guard
  unfoldable pub guarded : List ℕ → Result ℕ Fault → List Name → EdgeSoFar → EdgeSoFar
  guarded s at names x = record {
    channel = x.channel;
    input = x.input;
    edge = record {
      source = x.edge.source;
      target = x.edge.target;
      guard = read_or (λ g. g.constraint) (at >>= λ p. guard period s p names) (guard_so_far period s at names);
      label = x.edge.label;
      assignments = x.edge.assignments;
    };
  }

  -- the place behind the assignments
  unfoldable pub assigns_end : List ℕ → Result ℕ Fault → List Name → Result ℕ Fault
  assigns_end s at names = at >>= λ p. assigns period s p names >>= λ a. Ok a.end

  -- the edge with its assignments
  unfoldable pub assigned : List ℕ → Result ℕ Fault → List Name → EdgeSoFar → EdgeSoFar
  assigned s (Err f) names x = x
  assigned s (Ok p) names x = record {
    channel = x.channel;
    input = x.input;
    edge = record {
      source = x.edge.source;
      target = x.edge.target;
      guard = x.edge.guard;
      label = x.edge.label;
      assignments = read_or (λ a. a.assignments) (assigns period s p names) (assigns_so_far period s (Ok p) names);
    };
  }
