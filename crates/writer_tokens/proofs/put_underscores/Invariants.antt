-- So many underscores are put as turns were made.
use Rattle.std.specs.Prelude.{replicate}
use Rattle.byte_slices.specs.Put.{Puts}
use Rattle.writer_tokens.specs.Tokens.{underscore}
use Rattle.writer_tokens.proofs.put_underscores.Given as goal

abbrev pub invariant-loop : goal.invariant-loop
invariant-loop l = Puts l.initial.out l.at (replicate l.counter underscore) l.out l.place
