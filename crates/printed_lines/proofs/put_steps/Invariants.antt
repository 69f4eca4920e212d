-- The steps done are put, one by one.
use Rattle.std.proofs.Common.{take}
use Rattle.byte_slices.specs.Put.{Puts}
use Rattle.printed_lines.specs.Lines.{step_lines}
use Rattle.printed_lines.proofs.put_steps.Given as goal

abbrev pub invariant-loop-entry : goal.invariant-loop-entry
invariant-loop-entry l =
    Puts l.initial.out l.at (step_lines l.text l.channels (take l.entry-index l.fn.run)) l.out l.place
