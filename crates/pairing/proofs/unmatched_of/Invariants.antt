-- `unmatched_of` returns the lowest unmatched channel: the invariant says that the search from c on is the whole search.
use mathlib.Core.Path.{◌≡◌}
use Rattle.pairing.specs.Only.{only}
use Rattle.pairing.specs.Channels.{first_unmatched}
use Rattle.pairing.proofs.Turns.{judge}
use Rattle.pairing.proofs.unmatched_of.Given as goal

abbrev pub invariant-loop-c : goal.invariant-loop-c
invariant-loop-c l = judge l.s (only l.l) l.u (only l.r) l.c ≡ first_unmatched l.s (only l.l) l.u (only l.r)
