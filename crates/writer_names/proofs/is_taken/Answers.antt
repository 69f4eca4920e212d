-- None of the first k channels has the name.
use native.Mathlib.Omega.{arith}
use mathlib.Core.Path.{◌≡◌, sym, ◌∙◌}
use Rattle.writer_tokens.specs.Tokens.{called_by}
use Rattle.writer_names.proofs.Loops.{any_none, any_more, any_hits}
use Rattle.writer_names.proofs.Taken.{is_named, taken_any}
use Rattle.writer_names.proofs.is_taken.Goals as goal

pub loop-k-init : goal.loop-k-init
loop-k-init c = any_none _

pub is_called-requires : goal.is_called-requires
is_called-requires c =
    let loop = c.loop-k in
    c.requires.1 loop.k
    (omega arith)

pub returns-then-is_called : goal.returns-then-is_called
returns-then-is_called c =
    let loop = c.loop-k in
    let args = c.args in
    let w = called_by args.letter args.u args.i in
    sym (taken_any args.s.now args.channels args.count w
    ∙ any_hits (is_named args.s.now args.channels w) loop.k args.count
    (omega arith)
    (sym c.is_called.ensures ∙ c.if-is_called.true))

pub loop-k-preserved : goal.loop-k-preserved
loop-k-preserved c =
    let loop = c.loop-k in
    let args = c.args in
    let w = called_by args.letter args.u args.i in
    any_more (is_named args.s.now args.channels w) loop.k loop.invariant
    (sym c.is_called.ensures ∙ c.if-is_called.false)

pub returns : goal.returns
returns c =
    let loop = c.loop-k in
    let args = c.args in
    let w = called_by args.letter args.u args.i in
    let e : loop.k ≡ args.count = omega arith in
    sym (taken_any args.s.now args.channels args.count w ∙ (rw e at loop.invariant))
