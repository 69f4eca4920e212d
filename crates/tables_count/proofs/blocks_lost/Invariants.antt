-- blocks_lost goes block by block: r is what the first i blocks lose.
use Rattle.std.specs.Prelude.{◌*◌, ◌≤◌}
use Rattle.tables_count.specs.Pairs.{Lost, block}
use Rattle.tables_count.proofs.blocks_lost.Given as goal

abbrev pub invariant-loop-i : goal.invariant-loop-i
invariant-loop-i l = (l.r ≤ 8 * (l.i * block)) × Lost l.old l.row 0 (l.i * block) l.r
