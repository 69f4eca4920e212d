-- The first i clocks are put.
use Rattle.writer_tokens.specs.Tokens.{LeftToPut}
use Rattle.writer_lists.specs.Lists.{list_left, clock_item}
use Rattle.writer_lists.proofs.put_clocks.Given as goal

abbrev pub invariant-loop-i : goal.invariant-loop-i
invariant-loop-i l =
    LeftToPut l.initial.out l.initial.place (list_left (clock_item l.u) l.count 1) l.out l.place
    (list_left (clock_item l.u) l.count l.i)
