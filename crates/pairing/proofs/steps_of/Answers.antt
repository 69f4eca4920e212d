-- `steps_of` fills the map: the first c entries are those of `right_step`.
use Prim.Native.Nat.{◌≤◌}
use native.Mathlib.Omega.{arith}
use mathlib.Core.Path.{sym, ◌∙◌}
use lib.ListN.{replicate}
use Rattle.bitmaps.specs.BitLaws.{written_none, written_more}
use Rattle.pairing.specs.Only.{only}
use Rattle.pairing.specs.Channels.{right_step}
use Rattle.pairing.proofs.Turns.{written_whole}
use Rattle.limits.specs.Limits.{step_limit}
use Rattle.pairing.proofs.steps_of.Goals as goal

pub loop-c-init : goal.loop-c-init
loop-c-init c = sym (written_none _ _)

pub loop-c-preserved : goal.loop-c-preserved
loop-c-preserved c =
    let a = c.args in
    let f = right_step a.s.now (only a.l) a.u.now (only a.r) in
    let more = written_more f c.loop-c.c (replicate step_limit 0) _ (omega arith) c.step_of.ensures in
    rw c.loop-c.invariant more

pub returns : goal.returns
returns c =
    let a = c.args in
    c.loop-c.invariant ∙ written_whole (right_step a.s.now (only a.l) a.u.now (only a.r)) c.loop-c.c (omega arith)
