-- `reader_numbers::write_constraint` meets its contract, by the callees' contracts and the laws of numbers in a row.
use mathlib.Core.Path.{refl, ◌∙◌, ◌≡◌}
use mathlib.Core.List.{List, [], ◌∷◌}
use Prim.Native.Nat.{ℕ}
use native.Mathlib.Omega.{arith}
use lib.ListN.{length}
use Rattle.reader_record.specs.Record.{comparison}
use Rattle.limits.specs.Limits.{comparison_limit}
use Rattle.reader_numbers.specs.Layout.{comparison_size}
use Rattle.reader_numbers.specs.Numbers.{rows, comparison_numbers, constraint_numbers}
use Rattle.reader_numbers.proofs.Lengths.{comparison_length}
use Rattle.reader_numbers.proofs.Laws.{joined, none_written, one_written, all_written, same_size}
use Rattle.reader_numbers.proofs.write_constraint.Goals as goal

pub loop-i-preserved : goal.loop-i-preserved
loop-i-preserved c =
    let args = c.args in
    let loop = c.loop-i in
    one_written loop.invariant comparison_size (comparison_length args.g) (omega arith)
    c.write_comparison.ensures

pub shape_of-out : goal.shape_of-out
shape_of-out c =
    let first = c.put in
    let e : length first.new.out ≡ length c.args.out.now = first.auto.out in
    same_size c.loop-i.invariant ∙ e

pub returns : goal.returns
unfolding constraint_numbers
returns c =
    let args = c.args in
    let row : ℕ → List ℕ = λ k. comparison_numbers (comparison args.g k) in
    joined args.out.now args.at (args.g.count ∷ []) (rows comparison_limit row) c.put.ensures (all_written c.loop-i.invariant (omega arith)) refl

pub loop-i-init : goal.loop-i-init
loop-i-init c = none_written
