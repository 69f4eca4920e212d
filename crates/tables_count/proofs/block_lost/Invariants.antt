-- block_lost goes byte by byte: r is what the first i bytes of the block lose.
use Rattle.std.specs.Prelude.{◌+◌, ◌*◌, ◌≤◌}
use Rattle.tables_count.specs.Pairs.{Lost}
use Rattle.tables_count.proofs.block_lost.Given as goal

abbrev pub invariant-loop-i : goal.invariant-loop-i
invariant-loop-i l = (l.r ≤ 8 * l.i) × Lost l.old l.row l.j (l.j + l.i) l.r
