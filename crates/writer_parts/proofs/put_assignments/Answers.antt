-- The assignments of the first i clocks are put, and what is left is left.
use native.Mathlib.Omega.{arith}
use Rattle.writer_tokens.specs.TokenLaws.{tokens_none, left_all, left_then, left_same}
use Rattle.writer_parts.specs.PartLaws.{assignments_more, assignments_none, assignments_end, assignments_all}
use Rattle.writer_parts.proofs.put_assignments.Goals as goal

pub loop-i-init : goal.loop-i-init
loop-i-init c = let args = c.args in left_same (assignments_all args.u args.clocks args.all) left_all

pub loop-i-preserved : goal.loop-i-preserved
loop-i-preserved c =
    let args = c.args in
    let loop = c.loop-i in
    (left_then (left_same (assignments_more args.u args.all args.clocks loop.i
    loop.some (omega arith)) loop.invariant) c.put_assignment-place.ensures)

pub returns-then-some : goal.returns-then-some
returns-then-some c =
    let args = c.args in
    let loop = c.loop-i in
    (left_same (assignments_end args.u args.all args.clocks loop.i (omega arith))
    (rw c.if-some.true at loop.invariant)).whole
    c.put_token.ensures

pub returns : goal.returns
returns c =
    let args = c.args in
    let loop = c.loop-i in
    (left_same (assignments_none args.u args.all args.clocks loop.i (omega arith))
    (rw c.if-some.false at loop.invariant)).whole tokens_none
