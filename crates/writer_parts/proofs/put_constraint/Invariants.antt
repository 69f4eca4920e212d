-- The first i comparisons are put.
use Rattle.reader_tokens.specs.Scan.{bytes}
use Rattle.writer_tokens.specs.Tokens.{LeftToPut}
use Rattle.writer_parts.specs.Parts.{items_left, compared}
use Rattle.writer_parts.proofs.put_constraint.Given as goal

abbrev pub invariant-loop-i : goal.invariant-loop-i
invariant-loop-i l =
    LeftToPut l.initial.out l.initial.place (items_left (bytes "&&") l.closing (compared l.u l.g) l.count 1) l.out l.place
    (items_left (bytes "&&") l.closing (compared l.u l.g) l.count l.i)
