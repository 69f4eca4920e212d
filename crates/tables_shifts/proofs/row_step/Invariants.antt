-- row_step joins class by class what lands in the source; then the row is cut by it.
use Rattle.std.specs.Prelude.{◌≡◌, length}
use Rattle.limits.specs.Limits.{keep_limit}
use Rattle.tables_shifts.proofs.Joining.{Landed}
use Rattle.tables_shifts.proofs.row_step.Given as goal

abbrev pub invariant-loop-i : goal.invariant-loop-i
invariant-loop-i l = (length l.landed ≡ keep_limit)
    × ((length l.part ≡ keep_limit) × Landed l.source l.rm l.w l.steps l.masks l.c l.i l.landed)
