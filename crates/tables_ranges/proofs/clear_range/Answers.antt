-- clear_range clears up to the first whole byte, the whole bytes, and what is left.
use native.Mathlib.Omega.{arith}
use Rattle.tables_ranges.specs.CutLaws.{cut_join}
use Rattle.tables_ranges.proofs.clear_range.Goals as goal

pub returns : goal.returns
returns c =
    let first = c.clear_part-2 in
    let whole = c.clear_bytes in
    let last = c.clear_part-3 in
    cut_join (omega arith) (omega arith) (cut_join (omega arith) (omega arith) first.ensures whole.ensures)
    last.ensures
