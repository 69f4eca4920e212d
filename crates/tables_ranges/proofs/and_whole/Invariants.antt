-- The first i bytes are cut.
use Rattle.std.specs.Prelude.{◌+◌, ◌*◌}
use Rattle.tables_ranges.specs.Cut.{Cut, from_bit}
use Rattle.tables_ranges.proofs.and_whole.Given as goal

abbrev pub invariant-loop-i : goal.invariant-loop-i
invariant-loop-i l = Cut (8 * l.j) (8 * l.j + 8 * l.i) (from_bit l.source (8 * l.j) (8 * l.q)) l.initial.row l.row
