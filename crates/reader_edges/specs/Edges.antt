-- An edge: its locations, guard, label and assignments (SPECIFICATION 3.1).
use Rattle.std.specs.Prelude.{Bool, false, List, ℕ, Result, Ok}
use Rattle.reader_tokens.specs.Kinds as kinds
use Rattle.reader_record.specs.declared.Name.{Name}
use Rattle.reader_record.specs.declared.Channel.{Channel}
use Rattle.reader_parts.specs.declared.Fault.{Fault}
use Rattle.reader_parts.specs.Stages.{◌>>=◌, take}
use Rattle.reader_parts.specs.Names.{use_name}
use Rattle.reader_parts.specs.Slots.{first_location}
use Rattle.reader_constraints.specs.Constraints.{guard}
use Rattle.reader_edges.specs.declared.EdgeRead.{EdgeRead}
use Rattle.reader_edges.specs.Labels.{label_next}
use Rattle.reader_edges.specs.Assigns.{assigns}
use Rattle.limits.specs.Limits.{location_limit}

-- at one tick length, `period` (SPECIFICATION 4.7)
module _ (period : ℕ) where
  -- an edge (SPECIFICATION 3.1); `over`: it is one too many, which is code 7 at its source (SPECIFICATION 4.5)
  unfoldable pub edge_next : List ℕ → ℕ → List Name → List Channel → Bool → Result EdgeRead Fault
  edge_next s p names channels over = do
    source ← use_name s p names first_location location_limit over
    a ← take s source.end kinds.arrow
    target ← use_name s a names first_location location_limit false
    b ← take s target.end kinds.opens
    given ← guard period s b names
    labelled ← label_next s given.end names channels
    assigned ← assigns period s labelled.end names
    q ← take s assigned.end kinds.closes
    Ok (record {
      channel = labelled.channel;
      input = labelled.input;
      edge = record {
        source = source.number;
        target = target.number;
        guard = given.constraint;
        label = labelled.label;
        assignments = assigned.assignments;
      };
      end = q;
    })
