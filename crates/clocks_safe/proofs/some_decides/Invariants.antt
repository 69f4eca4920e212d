-- None of the first c steps decides.
use mathlib.Core.Path.{◌≡◌}
use mathlib.Core.Bool.{false}
use Rattle.systems.specs.Tests.{any}
use Rattle.bitmaps.specs.Bits.{bit_at}
use Rattle.clocks_safe.specs.Test.{decides_at}
use Rattle.clocks_safe.proofs.some_decides.Given as goal

abbrev pub invariant-loop-c : goal.invariant-loop-c
invariant-loop-c l = any l.c (decides_at l.moves l.inputs l.steps (bit_at l.keep) l.s l.own) ≡ false
