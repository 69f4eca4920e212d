-- The one test or the other, by `own`.
use mathlib.Core.Path.{ap}
use mathlib.Core.Bool.{not}
use Rattle.clocks_safe.specs.Test.{decides}
use Rattle.clocks_safe.proofs.decides.Goals as goal

pub returns-then-own : goal.returns-then-own
unfolding decides
returns-then-own c = rw c.if-own.true c.own_passes.ensures

pub returns : goal.returns
unfolding decides
returns c = rw c.if-own.false (ap not c.input_passes.ensures)
