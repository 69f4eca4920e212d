-- The first i clocks are put.
use mathlib.Core.List.{[], ◌∷◌}
use native.Mathlib.Omega.{arith}
use Rattle.reader_tokens.specs.Scan.{bytes}
use Rattle.written.specs.Written.{called, clock_list}
use Rattle.writer_tokens.specs.TokenLaws.{left_all}
use Rattle.writer_lists.specs.Lists.{clock_item}
use Rattle.writer_lists.specs.ListLaws.{list_none, list_some, list_next}
use Rattle.writer_lists.proofs.put_clocks.Goals as goal

pub returns-then-count-eq0 : goal.returns-then-count-eq0
unfolding clock_list
returns-then-count-eq0 c =
    let args = c.args in
    list_none (bytes "clock" ∷ []) (clock_item args.u) args.count (omega arith)

pub loop-i-init : goal.loop-i-init
loop-i-init c = left_all

pub loop-i-preserved : goal.loop-i-preserved
unfolding called
loop-i-preserved c =
    let args = c.args in
    let loop = c.loop-i in
    list_next (clock_item args.u) args.count loop.i (omega arith) loop.invariant
    c.put_token-comma.ensures
    c.put_named-place-in-loop-i.ensures

pub returns : goal.returns
unfolding clock_list called
returns c =
    let args = c.args in
    let loop = c.loop-i in
    list_some (bytes "clock" ∷ []) (clock_item args.u) args.count loop.i (omega arith) (omega arith)
    c.put_token-start.ensures c.put_named-place.ensures loop.invariant c.put_token.ensures
