-- `reader_numbers::put` meets its contract, by the callees' contracts and the laws of numbers in a row.
use mathlib.Core.Path.{refl}
use Rattle.reader_numbers.specs.Numbers.{put_at}
use Rattle.reader_numbers.proofs.Laws.{set_past}
use Rattle.reader_numbers.proofs.put.Goals as goal

pub returns-else-at-out : goal.returns-else-at-out
unfolding put_at
returns-else-at-out c =
    let args = c.args in
    set_past args.out.now args.at args.x c.if-at-out.false

pub returns-then-at-out : goal.returns-then-at-out
unfolding put_at
returns-then-at-out c = refl
