-- The first i edges are put.
use mathlib.Core.List.{[], ◌∷◌}
use native.Mathlib.Omega.{arith}
use Rattle.reader_tokens.specs.Scan.{bytes}
use Rattle.written.specs.Written.{edge_list}
use Rattle.writer_tokens.specs.TokenLaws.{left_all}
use Rattle.written_names.specs.Inside.{names_in}
use Rattle.writer_lists.specs.Lists.{edge_item}
use Rattle.writer_lists.specs.ListLaws.{list_none, list_some, list_next}
use Rattle.writer_lists.proofs.put_edges.Invariants.{edge_within}
use Rattle.writer_lists.proofs.put_edges.Goals as goal

pub returns-then-count-eq0 : goal.returns-then-count-eq0
unfolding edge_list
returns-then-count-eq0 c =
    let args = c.args in
    let t = args.t in
    list_none (bytes "trans" ∷ []) (edge_item (names_in args.s.now t.channels t.channel_count)
    args.u t) t.edge_count (omega arith)

pub put_edge-place-requires : goal.put_edge-place-requires
put_edge-place-requires c = edge_within c.requires 0 (omega arith)

pub offset_bounds-t-i : goal.offset_bounds-t-i
offset_bounds-t-i c = omega (arith, c.requires.few_edges)

pub bounds-t-i : goal.bounds-t-i
bounds-t-i c = omega (arith, c.requires.few_edges)

pub put_edge-place-requires-in-loop-i : goal.put_edge-place-requires-in-loop-i
put_edge-place-requires-in-loop-i c = edge_within c.requires _ c.loop-i-test.true

pub loop-i-init : goal.loop-i-init
loop-i-init c = left_all

pub loop-i-preserved : goal.loop-i-preserved
loop-i-preserved c =
    let args = c.args in
    let t = args.t in
    let loop = c.loop-i in
    list_next (edge_item (names_in args.s.now t.channels t.channel_count) args.u t) t.edge_count
    loop.i (omega arith) loop.invariant c.put_token-comma.ensures c.put_edge-place-in-loop-i.ensures

pub returns : goal.returns
unfolding edge_list
returns c =
    let args = c.args in
    let t = args.t in
    let loop = c.loop-i in
    list_some (bytes "trans" ∷ []) (edge_item (names_in args.s.now t.channels t.channel_count)
    args.u t) t.edge_count loop.i (omega arith) (omega arith) c.put_token-start.ensures
    c.put_edge-place.ensures loop.invariant c.put_token.ensures
