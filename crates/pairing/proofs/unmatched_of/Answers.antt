-- `unmatched_of` returns the lowest unmatched channel.
use Prim.Native.Nat.{◌≤◌}
use native.Mathlib.Omega.{arith}
use mathlib.Core.Path.{sym, ◌∙◌}
use Rattle.pairing.specs.Only.{only}
use Rattle.pairing.proofs.Turns.{judge_begins, judge_finds, judge_goes, judge_ends}
use Rattle.pairing.proofs.unmatched_of.Goals as goal

pub loop-c-init : goal.loop-c-init
loop-c-init c = judge_begins c.args.s.now (only c.args.l) c.args.u.now (only c.args.r)

pub returns-then-not-is_matched : goal.returns-then-not-is_matched
returns-then-not-is_matched c =
    sym (judge_finds c.args.s.now (only c.args.l) c.args.u.now (only c.args.r) c.loop-c.c (omega arith)
    (sym c.is_matched.ensures ∙ c.if-not-is_matched.true))
    ∙ c.loop-c.invariant

pub loop-c-preserved : goal.loop-c-preserved
loop-c-preserved c =
    sym (judge_goes c.args.s.now (only c.args.l) c.args.u.now (only c.args.r) c.loop-c.c (omega arith)
    (sym c.is_matched.ensures ∙ c.if-not-is_matched.false))
    ∙ c.loop-c.invariant

pub returns : goal.returns
returns c =
    sym (judge_ends c.args.s.now (only c.args.l) c.args.u.now (only c.args.r) c.loop-c.c (omega arith)) ∙ c.loop-c.invariant
