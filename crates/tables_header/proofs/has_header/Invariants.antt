-- has_header compares byte by byte: from byte i on the answer is still open.
use Rattle.std.specs.Prelude.{◌≡◌, drop}
use Rattle.tables_header.specs.Header.{header, begins}
use Rattle.tables_header.proofs.has_header.Given as goal

abbrev pub invariant-loop-i : goal.invariant-loop-i
invariant-loop-i l = begins (header l.w l.h) l.table ≡ begins (drop l.i (header l.w l.h)) (drop l.i l.table)
