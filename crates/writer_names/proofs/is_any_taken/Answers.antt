-- None of the first i names is a channel's.
use native.Mathlib.Omega.{arith}
use mathlib.Core.Path.{◌≡◌, sym, ◌∙◌}
use Rattle.writer_names.specs.Names.{is_taken}
use Rattle.writer_names.proofs.Loops.{any_none, any_more, any_hits}
use Rattle.writer_names.proofs.is_any_taken.Goals as goal

pub loop-i-init : goal.loop-i-init
loop-i-init c = any_none _

pub returns-then-is_taken : goal.returns-then-is_taken
returns-then-is_taken c =
    let loop = c.loop-i in
    let args = c.args in
    sym (any_hits (is_taken args.s.now args.channels args.count args.letter args.u) loop.i args.n
    (omega arith) (sym c.is_taken.ensures ∙ c.if-is_taken.true))

pub loop-i-preserved : goal.loop-i-preserved
loop-i-preserved c =
    let loop = c.loop-i in
    let args = c.args in
    any_more (is_taken args.s.now args.channels args.count args.letter args.u) loop.i
    loop.invariant (sym c.is_taken.ensures ∙ c.if-is_taken.false)

pub returns : goal.returns
returns c =
    let loop = c.loop-i in
    let e : loop.i ≡ c.args.n = omega arith in
    sym (rw e at loop.invariant)
