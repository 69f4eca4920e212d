-- `reader_numbers::put_three` meets its contract, by the callees' contracts and the laws of numbers in a row.
use mathlib.Core.Path.{refl}
use mathlib.Core.List.{[], ◌∷◌}
use Rattle.reader_numbers.proofs.Laws.{joined}
use Rattle.reader_numbers.proofs.put_three.Goals as goal

pub returns : goal.returns
returns c =
    let args = c.args in
    joined args.out.now args.at (args.x ∷ args.y ∷ []) (args.z ∷ []) c.put_two.ensures
    c.put.ensures refl
