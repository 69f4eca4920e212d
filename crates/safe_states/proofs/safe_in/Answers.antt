-- The outcome goes by codes 24 and 1 to 11, then 13, then by what `found` promises.
use mathlib.Core.Path.{refl, ◌∙◌}
use native.Mathlib.Omega.{arith}
use Rattle.std.specs.Prelude.{Ok}
use Rattle.clocks_read.specs.Laws.{measured_load, measured_counted, measured_refused}
use Rattle.clocks_read.specs.Loaded.{answer_is}
use Rattle.safe_states.proofs.Paths.{safe_unread, safe_refused, safe_few, safe_short, safe_found, safe_ready}
use Rattle.safe_states.proofs.safe_in.Goals as goal

pub returns-in_err-m : goal.returns-in_err-m
returns-in_err-m c =
    let refused = measured_refused _ _ c.in_err-m.field-0.0 (rw c.in_err-m.was at c.requires.0) in
    safe_unread _ _ _ _ refused c.from_residual.result c.from_residual.ensures.1

pub returns-in_err-reading : goal.returns-in_err-reading
returns-in_err-reading c =
    let pre = rw c.in_ok-m.was at c.requires in
    let loaded = c.in_err-reading.ensures.loading ∙ measured_load _ _ _ pre.0 _ _ in
    safe_refused _ _ _ _ _ _ _ _ loaded c.from_residual-in_err-reading.result c.from_residual-in_err-reading.ensures.1

pub bytes_for-need-requires : goal.bytes_for-need-requires
bytes_for-need-requires c =
    let pre = rw c.in_ok-m.was at c.requires in
    let loaded = c.in_ok-reading.ensures.loading ∙ measured_load _ _ _ pre.0 _ _ in
    omega (arith, safe_few _ _ _ _ _ _ c.args.keep.now _ loaded)

pub returns-then-keep-need : goal.returns-then-keep-need
returns-then-keep-need c =
    let pre = rw c.in_ok-m.was at c.requires in
    let loaded = c.in_ok-reading.ensures.loading ∙ measured_load _ _ _ pre.0 _ _ in
    safe_short _ _ _ _ _ _ _ _ loaded _ c.bytes_for-need.ensures c.if-keep-need.true

pub found-requires : goal.found-requires
found-requires c =
    let pre = rw c.in_ok-m.was at c.requires in
    let loaded = c.in_ok-reading.ensures.loading ∙ measured_load _ _ _ pre.0 _ _ in
    let accepted = answer_is _ c.args.text.now _ _ (Ok c.in_ok-reading.reading) _ _ loaded _ refl in
    safe_ready _ _ _ _ _ _ _ _ loaded _ c.bytes_for-need.ensures c.if-keep-need.false _ _
    (measured_counted _ _ _ pre.0 accepted) pre.1

pub returns : goal.returns
returns c =
    let pre = rw c.in_ok-m.was at c.requires in
    let loaded = c.in_ok-reading.ensures.loading ∙ measured_load _ _ _ pre.0 _ _ in
    safe_found _ _ _ _ _ _ _ _ loaded _ c.bytes_for-need.ensures c.if-keep-need.false _ c.found.ensures
