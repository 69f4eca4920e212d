-- The first i locations are put.
use Rattle.written.specs.Written.{location_tokens}
use Rattle.writer_tokens.specs.Tokens.{LeftToPut}
use Rattle.writer_lists.specs.Lists.{list_left}
use Rattle.writer_lists.proofs.put_locations.Given as goal

abbrev pub invariant-loop-i : goal.invariant-loop-i
invariant-loop-i l =
    LeftToPut l.initial.out l.initial.place (list_left (location_tokens l.u l.t) l.count 1) l.out l.place
    (list_left (location_tokens l.u l.t) l.count l.i)
