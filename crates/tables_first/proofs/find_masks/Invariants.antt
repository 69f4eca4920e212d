-- find_masks goes step by step: the masks of the steps before c are made.
use Rattle.tables_first.specs.Masks.{Masks}
use Rattle.tables_first.proofs.find_masks.Given as goal

abbrev pub invariant-loop-c : goal.invariant-loop-c
invariant-loop-c l = Masks l.rm l.holds l.w l.steps l.c l.masks
