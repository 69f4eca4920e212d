-- `reader_numbers::write_edge` meets its contract, by the callees' contracts and the laws of numbers in a row.
use mathlib.Core.Path.{refl}
use mathlib.Core.List.{[], ◌∷◌, ◌++◌}
use native.Mathlib.Omega.{arith}
use Rattle.reader_numbers.specs.Numbers.{label_numbers, constraint_numbers, assignments_numbers, edge_numbers}
use Rattle.reader_numbers.proofs.Lengths.{constraint_length}
use Rattle.reader_numbers.proofs.Laws.{joined}
use Rattle.reader_numbers.proofs.write_edge.Goals as goal

pub returns : goal.returns
unfolding edge_numbers
returns c =
    let args = c.args in
    let out = args.out.now in
    let at = args.at in
    let e = args.e in
    let ends = e.source ∷ e.target ∷ [] in
    let label = label_numbers e.label in
    let guard = constraint_numbers e.guard in
    let labelled = joined out at ends label c.put_two.ensures c.write_label.ensures refl in
    let guarded = joined out at (ends ++ label) guard labelled c.write_constraint.ensures refl in
    joined out at ((ends ++ label) ++ guard) (assignments_numbers e) guarded c.write_assignments.ensures
    (omega (arith, constraint_length e.guard))
