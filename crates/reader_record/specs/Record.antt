-- The record of a contract text, item by item (SPECIFICATION 5.1, 5.3). Where an index is past the end of a list, the
-- answer is a fixed empty item.
use Rattle.std.specs.Prelude.{true, false, cond, [], ℕ, ◌-◌, get_or}
use Rattle.reader_record.specs.declared.Name.{Name}
use Rattle.reader_record.specs.declared.Direction.{Direction}
use Rattle.reader_record.specs.declared.Direction.TheVariants.{Unused}
use Rattle.reader_record.specs.declared.Channel.{Channel}
use Rattle.reader_record.specs.declared.Sign.TheVariants.{AtMost}
use Rattle.reader_record.specs.declared.Comparison.{Comparison}
use Rattle.reader_record.specs.declared.Constraint.{Constraint}
use Rattle.reader_record.specs.declared.Location.{Location}
use Rattle.reader_record.specs.declared.Label.{Label}
use Rattle.reader_record.specs.declared.Label.TheVariants.{Input, Output}
use Rattle.reader_record.specs.declared.Assignment.{Assignment}
use Rattle.reader_record.specs.declared.Edge.{Edge}
use Rattle.reader_record.specs.declared.Text.{Text}

-- what stands past the end of a list of a text
abbrev pub no_name : Name
no_name = record { place = 0; len = 0 }

abbrev pub no_channel : Channel
no_channel = record { name = no_name; direction = Unused }

abbrev pub no_comparison : Comparison
no_comparison = record { clock = 0; sign = AtMost; bound = 0 }

abbrev pub no_constraint : Constraint
no_constraint = record { comparisons = []; count = 0 }

abbrev pub no_location : Location
no_location = record { name = no_name; invariant = no_constraint }

-- a clock that is not assigned (SPECIFICATION 5.4)
abbrev pub no_assignment : Assignment
no_assignment = record { made = false; value = 0; largest = 0 }

abbrev pub no_edge : Edge
no_edge = record { source = 0; target = 0; guard = no_constraint; label = Input 0; assignments = [] }

abbrev pub comparison : Constraint → ℕ → Comparison
comparison g i = get_or g.comparisons i no_comparison

-- an assignment as a joined text has it: written once, with the value assigned, so that this is the largest one written
-- too (SPECIFICATION 5.4, 18.5)
unfoldable pub written_once : Assignment → Assignment
written_once a = cond a.made (record { made = true; value = a.value; largest = a.value }) no_assignment

-- what an edge does to clock k
abbrev pub assignment : Edge → ℕ → Assignment
assignment e k = get_or e.assignments k no_assignment

abbrev pub edge : Text → ℕ → Edge
edge t i = get_or t.edges i no_edge

-- the direction of channel c, from 1 (SPECIFICATION 4.4, 5.1)
abbrev pub direction_of : Text → ℕ → Direction
direction_of t c = (get_or t.channels (c - 1) no_channel).direction

abbrev pub invariant_of : Text → ℕ → Constraint
invariant_of t l = (get_or t.locations l no_location).invariant

-- the channel of a label, from 1 (SPECIFICATION 5.3)
unfoldable pub channel : Label → ℕ
channel (Input c) = c
channel (Output c) = c
