-- and_range cuts up to the first whole byte, the whole bytes, and what is left.
use native.Mathlib.Omega.{arith}
use Rattle.tables_ranges.proofs.Laws.{three_parts}
use Rattle.tables_ranges.proofs.and_range.Goals as goal

pub returns : goal.returns
returns c =
    let first = c.and_part-2 in
    let whole = c.and_bytes in
    let last = c.and_part-3 in
    three_parts _ _ _ _ _ _ (omega arith) (omega arith) (omega arith) first.ensures whole.ensures last.ensures
