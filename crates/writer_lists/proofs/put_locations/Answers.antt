-- The first i locations are put.
use mathlib.Core.List.{[], ◌∷◌}
use native.Mathlib.Omega.{arith}
use Rattle.reader_tokens.specs.Scan.{bytes}
use Rattle.written.specs.Written.{location_tokens, location_list}
use Rattle.writer_tokens.specs.TokenLaws.{left_all}
use Rattle.writer_lists.specs.ListLaws.{list_none, list_some, list_next}
use Rattle.writer_lists.proofs.put_locations.Goals as goal

pub returns-then-count-eq0 : goal.returns-then-count-eq0
unfolding location_list
returns-then-count-eq0 c =
    let args = c.args in
    list_none (bytes "state" ∷ []) (location_tokens args.u args.t) args.t.location_count (omega arith)

pub put_location_at-place-requires : goal.put_location_at-place-requires
put_location_at-place-requires c = (c.requires, omega arith)

pub loop-i-init : goal.loop-i-init
loop-i-init c = left_all

pub put_location_at-place-requires-in-loop-i : goal.put_location_at-place-requires-in-loop-i
put_location_at-place-requires-in-loop-i c = (
  c.requires,
  omega arith,
)

pub loop-i-preserved : goal.loop-i-preserved
loop-i-preserved c =
    let args = c.args in
    let loop = c.loop-i in
    list_next (location_tokens args.u args.t) args.t.location_count loop.i (omega arith)
    loop.invariant c.put_token-comma.ensures
    c.put_location_at-place-in-loop-i.ensures

pub returns : goal.returns
unfolding location_list
returns c =
    let args = c.args in
    let loop = c.loop-i in
    list_some (bytes "state" ∷ []) (location_tokens args.u args.t) args.t.location_count loop.i
    (omega arith) (omega arith)
    c.put_token-start.ensures c.put_location_at-place.ensures loop.invariant c.put_token.ensures
