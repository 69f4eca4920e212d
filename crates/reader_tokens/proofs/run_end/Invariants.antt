-- The bytes that are passed so far do not change where the run ends.
use Rattle.std.specs.Prelude.{◌≡◌}
use Rattle.reader_tokens.specs.Scan.{past}
use Rattle.reader_tokens.specs.Tokens.{is_in}
use Rattle.reader_tokens.proofs.run_end.Given as goal

abbrev pub invariant-loop-i : goal.invariant-loop-i
invariant-loop-i l = past (is_in l.c) l.s l.i ≡ past (is_in l.c) l.s l.fn.at
