-- The first bytes are put, one by one.
use Rattle.std.proofs.Common.{take}
use Rattle.byte_slices.specs.Put.{Puts}
use Rattle.byte_slices.proofs.put_bytes.Given as goal

abbrev pub invariant-loop-b : goal.invariant-loop-b
invariant-loop-b l = Puts l.initial.out l.at (take l.b-index l.fn.bytes) l.out l.place
