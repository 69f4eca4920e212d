-- join_constraint: the comparisons passed so far are those of `both_constraints`.
use mathlib.Core.Path.{◌≡◌, sym}
use lib.ListN.{length-set}
use Rattle.reader_record.specs.Record.{no_comparison, comparison}
use Rattle.joined.specs.Joined.{both_constraints}
use Rattle.joined.proofs.Formed.{both_count}
use Rattle.joining_items.specs.Laws.{kept_more}
use native.Mathlib.Omega.{arith}
use Rattle.joining_items.proofs.join_constraint.Goals as goal

pub loop-i-preserved : goal.loop-i-preserved
loop-i-preserved c =
    let loop = c.loop-i in
    let a = c.args in (
      simp length-set loop.invariant.0,
      kept_more no_comparison (λ j q. q ≡ comparison (both_constraints a.n a.g a.h) j) loop.list loop.i
          c.comparison_at.result (omega arith) c.comparison_at.ensures loop.invariant.1,
    )

pub returns : goal.returns
returns c =
    let a = c.args in
    let loop = c.loop-i in
    let same = both_count a.n a.g a.h in
    record {
      count = sym same;
      each = λ i l m. loop.invariant.1 i (omega (arith, same));
    }
