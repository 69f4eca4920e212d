-- `megzhoi_c::both_possible` asks of the left count, then of the right one.
use Rattle.megzhoi_c.proofs.SizeLaws.{denied, granted}
use Rattle.megzhoi_c.proofs.both_possible.Goals as goal

pub returns-then-not-possible : goal.returns-then-not-possible
returns-then-not-possible c = rw (denied c.possible.result c.possible.ensures c.if-not-possible.true)

pub returns : goal.returns
returns c =
    let asked = c.possible in
    rw (granted asked.result asked.ensures c.if-not-possible.false) c.possible-2.ensures
