-- None of the first i names is a channel's.
use mathlib.Core.Path.{◌≡◌}
use mathlib.Core.Bool.{false}
use Rattle.systems.specs.Tests.{any}
use Rattle.writer_names.specs.Names.{is_taken}
use Rattle.writer_names.proofs.is_any_taken.Given as goal

abbrev pub invariant-loop-i : goal.invariant-loop-i
invariant-loop-i l = any l.i (is_taken l.s l.channels l.count l.letter l.u) ≡ false
