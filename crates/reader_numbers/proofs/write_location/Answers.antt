-- `reader_numbers::write_location` meets its contract, by the callees' contracts and the laws of numbers in a row.
use mathlib.Core.Path.{refl}
use mathlib.Core.List.{[], ◌∷◌}
use Rattle.reader_numbers.specs.Numbers.{constraint_numbers, location_numbers}
use Rattle.reader_numbers.proofs.Laws.{joined}
use Rattle.reader_numbers.proofs.write_location.Goals as goal

pub returns : goal.returns
unfolding location_numbers
returns c =
    let args = c.args in
    let name = args.l.name in
    joined args.out.now args.at (name.place ∷ name.len ∷ []) (constraint_numbers args.l.invariant)
    c.put_two.ensures c.write_constraint.ensures refl
