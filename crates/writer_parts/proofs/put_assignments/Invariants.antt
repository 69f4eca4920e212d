-- The assignments of the first i clocks are put, and what is left is left.
use Rattle.written.specs.Written.{assignments_tokens}
use Rattle.writer_tokens.specs.Tokens.{LeftToPut}
use Rattle.writer_parts.specs.Parts.{assignments_left}
use Rattle.writer_parts.proofs.put_assignments.Given as goal

abbrev pub invariant-loop-i : goal.invariant-loop-i
invariant-loop-i l =
    LeftToPut l.initial.out l.at (assignments_tokens l.u l.clocks l.all) l.out l.place (assignments_left l.some l.u l.all l.clocks l.i)
