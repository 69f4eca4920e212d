-- step_classes goes state by state: those before t are in their classes.
use Rattle.tables_shifts.specs.Shifts.{Classed}
use Rattle.tables_shifts.specs.Placing.{Behind}
use Rattle.tables_shifts.proofs.step_classes.Given as goal

abbrev pub invariant-loop-t : goal.invariant-loop-t
invariant-loop-t l = Behind l.w l.c l.initial.classes l.initial.masks l.classes l.masks
    × Classed l.rm l.w l.steps l.classes l.masks l.c l.p.count l.t
