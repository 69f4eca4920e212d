-- row_lost goes byte by byte behind the last whole block: r is what the bytes from there to byte i lose.
use Rattle.std.specs.Prelude.{◌*◌, ◌≤◌}
use Rattle.tables_count.specs.Pairs.{Lost, block}
use Rattle.tables_count.proofs.row_lost.Given as goal

abbrev pub invariant-loop-i : goal.invariant-loop-i
invariant-loop-i l = (l.r ≤ 8 * l.i) × Lost l.old l.row (l.m * block) l.i l.r
