use native.Mathlib.Omega.{arith}
use mathlib.Core.Path.{◌≡◌}
use Prim.Native.Nat.{◌%◌}
use Rattle.tables_ranges.specs.CutLaws.{cut_none, cut_same}
use Rattle.tables_ranges.proofs.Laws.{no_bit}
use Rattle.tables_ranges.proofs.clear_part.Goals as goal

pub returns-then-a-e : goal.returns-then-a-e
returns-then-a-e c = cut_same (λ i l h. no_bit (i % 8)) c.cut_part.ensures

pub returns-else-a-e : goal.returns-else-a-e
returns-else-a-e c = let args = c.args in
    let e : args.e ≡ args.a = omega arith in
    rw e (cut_none args.a _ args.row.now)
