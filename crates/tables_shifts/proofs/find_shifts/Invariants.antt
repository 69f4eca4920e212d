-- find_shifts goes step by step: the steps before c have their classes.
use Rattle.tables_shifts.proofs.Classes.{Before}
use Rattle.tables_shifts.proofs.find_shifts.Given as goal

abbrev pub invariant-loop-c : goal.invariant-loop-c
invariant-loop-c l = Before l.rm l.w l.steps l.classes l.masks l.c
