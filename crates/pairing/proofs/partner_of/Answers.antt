-- `partner_of` returns the channel that has the name.
use Prim.Native.Nat.{◌≤◌}
use native.Mathlib.Omega.{arith}
use mathlib.Core.Path.{sym, ◌∙◌}
use Rattle.pairing.specs.Only.{only}
use Rattle.pairing.proofs.Turns.{seek_begins, seek_finds, seek_goes, seek_ends}
use Rattle.pairing.proofs.partner_of.Goals as goal

pub loop-d-init : goal.loop-d-init
loop-d-init c = seek_begins c.args.s.now c.args.name c.args.u.now (only c.args.r)

pub returns-then-is_same : goal.returns-then-is_same
returns-then-is_same c =
    sym (seek_finds c.args.s.now c.args.name c.args.u.now (only c.args.r) c.loop-d.d (omega arith)
    (sym c.is_same.ensures ∙ c.if-is_same.true))
    ∙ c.loop-d.invariant

pub loop-d-preserved : goal.loop-d-preserved
loop-d-preserved c =
    sym (seek_goes c.args.s.now c.args.name c.args.u.now (only c.args.r) c.loop-d.d (omega arith)
    (sym c.is_same.ensures ∙ c.if-is_same.false))
    ∙ c.loop-d.invariant

pub returns : goal.returns
returns c =
    sym (seek_ends c.args.s.now c.args.name c.args.u.now (only c.args.r) c.loop-d.d (omega arith)) ∙ c.loop-d.invariant
