-- first_bad tests one step after the other: from step c on the answer is still open.
use Rattle.std.specs.Prelude.{◌≡◌, ◌-◌}
use Rattle.systems.specs.Tests.{least}
use Rattle.tables_check.specs.Scan.{fails_at}
use Rattle.tables_check.proofs.first_bad.Given as goal

abbrev pub invariant-loop-c : goal.invariant-loop-c
invariant-loop-c l = least (fails_at l.lm l.rm l.w l.steps l.raster l.s l.t) l.c (l.steps - l.c)
    ≡ least (fails_at l.lm l.rm l.w l.steps l.raster l.s l.t) 0 l.steps
