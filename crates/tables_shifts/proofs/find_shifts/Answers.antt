-- find_shifts goes step by step: the steps before c have their classes.
use Rattle.std.proofs.Common.{arith}
use Rattle.tables_shifts.proofs.Classes.{room_sized, before_more}
use Rattle.tables_shifts.proofs.find_shifts.Goals as goal

pub loop-c-preserved : goal.loop-c-preserved
loop-c-preserved c =
    before_more _ (omega arith) (room_sized c.requires.1.1 c.loop-c.auto.classes c.loop-c.auto.masks)
    c.loop-c.invariant c.step_shifts-k.ensures.0 c.step_shifts-k.ensures.1.1
