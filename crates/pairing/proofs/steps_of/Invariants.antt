-- `steps_of` fills the map: the first c entries are those of `right_step`.
use mathlib.Core.Path.{◌≡◌}
use lib.ListN.{replicate}
use Rattle.bitmaps.specs.Bits.{written}
use Rattle.pairing.specs.Only.{only}
use Rattle.pairing.specs.Channels.{right_step}
use Rattle.limits.specs.Limits.{step_limit}
use Rattle.pairing.proofs.steps_of.Given as goal

abbrev pub invariant-loop-c : goal.invariant-loop-c
invariant-loop-c l = l.map ≡ written (right_step l.s (only l.l) l.u (only l.r)) l.c (replicate step_limit 0)
