-- comparison_at: below the left's count it is the left's comparison, from there on the right's on its new clock.
use mathlib.Core.Path.{sym, ◌∙◌}
use Prim.Native.Nat.{◌-◌}
use Rattle.joined.proofs.Formed.{both_left}
use Rattle.joining_items.specs.Laws.{both_behind}
use native.Mathlib.Omega.{arith}
use Rattle.joining_items.proofs.comparison_at.Goals as goal

pub returns-then-i-first : goal.returns-then-i-first
returns-then-i-first c =
    let a = c.args in sym (both_left a.n a.g a.h a.i (omega arith))

pub shifted-requires : goal.shifted-requires
shifted-requires c =
    let a = c.args in
    rw c.from-first.ensures
    (c.requires.0.left_clocks, c.requires.0.clocks (a.i - a.g.count) (omega (arith, c.requires.2)))

pub returns : goal.returns
returns c =
    let a = c.args in
    rw c.from-first.ensures at c.shifted.ensures
    ∙ sym (both_behind a.n a.g a.h a.i (omega arith) (omega (arith, c.requires.2)))
