-- The first i comparisons are put.
use mathlib.Core.List.{[], ◌∷◌}
use native.Mathlib.Omega.{arith}
use Rattle.reader_tokens.specs.Scan.{bytes}
use Rattle.written.specs.Written.{constraint_tokens}
use Rattle.writer_tokens.specs.TokenLaws.{left_all}
use Rattle.writer_parts.specs.Parts.{compared}
use Rattle.writer_parts.specs.ItemLaws.{part_none, part_some, items_next}
use Rattle.writer_parts.proofs.put_constraint.Goals as goal

pub returns-then-count-eq0 : goal.returns-then-count-eq0
unfolding constraint_tokens
returns-then-count-eq0 c =
    let args = c.args in
    part_none (args.opening.now ∷ []) (bytes "&&") args.closing.now (compared args.u args.g)
    args.g.count (omega arith)

pub loop-i-init : goal.loop-i-init
loop-i-init c = left_all

pub loop-i-preserved : goal.loop-i-preserved
loop-i-preserved c =
    let args = c.args in
    let loop = c.loop-i in
    items_next (bytes "&&") args.closing.now (compared args.u args.g) args.g.count loop.i
    (omega arith) loop.invariant c.put_token-joined.ensures c.put_comparison-place-in-loop-i.ensures

pub returns : goal.returns
unfolding constraint_tokens
returns c =
    let args = c.args in
    let loop = c.loop-i in
    part_some (args.opening.now ∷ []) (bytes "&&") args.closing.now (compared args.u args.g)
    args.g.count loop.i (omega arith) (omega arith)
    c.put_token-start.ensures c.put_comparison-place.ensures
    loop.invariant c.put_token.ensures
