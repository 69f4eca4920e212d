-- The first i bytes are cut, each by two neighbouring bytes of the source.
use Rattle.std.specs.Prelude.{◌+◌, ◌*◌}
use Rattle.tables_ranges.specs.Cut.{Cut, from_bit}
use Rattle.tables_ranges.proofs.and_shifted.Given as goal

abbrev pub invariant-loop-i : goal.invariant-loop-i
invariant-loop-i l = Cut (8 * l.j) (8 * l.j + 8 * l.i) (from_bit l.source (8 * l.j) l.v) l.initial.row l.row
