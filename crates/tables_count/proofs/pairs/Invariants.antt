-- pairs goes row by row: r is the pairs set in the first s rows.
use Rattle.std.specs.Prelude.{◌≡◌}
use Rattle.tables_rows.specs.Raster.{set_at}
use Rattle.tables_count.specs.Pairs.{pairs_set}
use Rattle.tables_count.proofs.pairs.Given as goal

abbrev pub invariant-loop-s : goal.invariant-loop-s
invariant-loop-s l = l.r ≡ pairs_set (set_at l.w l.raster) l.w l.s
