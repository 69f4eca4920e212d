-- None of the first k channels has the name.
use mathlib.Core.Path.{◌≡◌}
use mathlib.Core.Bool.{false}
use Rattle.systems.specs.Tests.{any}
use Rattle.writer_tokens.specs.Tokens.{called_by}
use Rattle.writer_names.proofs.Taken.{is_named}
use Rattle.writer_names.proofs.is_taken.Given as goal

abbrev pub invariant-loop-k : goal.invariant-loop-k
invariant-loop-k l = any l.k (is_named l.s l.channels (called_by l.letter l.u l.i)) ≡ false
