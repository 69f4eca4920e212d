-- The slots that are passed so far do not change the one that is found.
use Rattle.std.specs.Prelude.{◌≡◌}
use Rattle.reader_tokens.specs.Scan.{past}
use Rattle.reader_parts.specs.Names.{differs}
use Rattle.reader_parts.proofs.find.Given as goal

abbrev pub invariant-loop-i : goal.invariant-loop-i
invariant-loop-i l = past (differs l.s l.name) l.fn.names l.i ≡ past (differs l.s l.name) l.fn.names 0
