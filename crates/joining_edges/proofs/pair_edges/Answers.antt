-- pair_edges: the edges of the left edges passed so far are gathered; with more than the limit, all of them are more.
use mathlib.Core.Path.{◌≡◌, sym, ap, subst}
use mathlib.Core.List.{List}
use Prim.Native.Nat.{◌+◌, ◌<◌}
use Rattle.limits.specs.Limits.{step_limit}
use Rattle.bitmaps.specs.Bits.{tab_from}
use Rattle.reader_record.specs.declared.Edge.{Edge}
use Rattle.reader_record.specs.Record.{edge}
use Rattle.joined.specs.Joined.{paired, edges_of}
use Rattle.joining_edges.specs.Edges.{by_map, Holds, Gathered}
use Rattle.joining_edges.specs.Laws.{gathered, paired_none, paired_turn, paired_over, edges_joinable}
use native.Mathlib.Omega.{arith}
use Rattle.joining_edges.proofs.pair_edges.Goals as goal
use Rattle.joining_edges.proofs.pair_edges.Goals.{After-channel_of-c, After-pair_edge-all}

pub loop-i-init : goal.loop-i-init
loop-i-init c =
    let a = c.args in
    subst (λ (xs : List Edge). Holds xs c.no_edges-all.result)
    (sym (paired_none a.l a.r (by_map a.map))) c.no_edges-all.ensures

-- the channel of the left edge has an entry in the map
entry : (z : After-channel_of-c) → z.channel_of-c.result < step_limit
entry z =
    let loop = z.loop-i in
    let label = z.requires.left.label loop.i z.loop-i-test.true in
    omega (arith, z.channel_of-c.ensures, label.1, z.requires.left.channels)

pub offset_bounds-map-c : goal.offset_bounds-map-c
offset_bounds-map-c c = omega (arith, entry (goal.at.offset_bounds-map-c c).After-channel_of-c)

pub bounds-map-c : goal.bounds-map-c
bounds-map-c c = entry (goal.at.bounds-map-c c).After-channel_of-c

pub pair_edge-all-requires : goal.pair_edge-all-requires
pair_edge-all-requires c =
    let if1 = c.loop-i-test in
    let loop = c.loop-i in (
      loop.invariant.room,
      loop.invariant.few,
      c.requires.right.edges,
      λ k h. edges_joinable _ _ c.requires loop.i k if1.true h,
    )

-- the edges with one left edge more
one_more : (z : After-pair_edge-all)
    → let a = z.args in
    let i = z.loop-i.i in
    Gathered (paired a.l a.r (by_map a.map) (tab_from (edge a.l) 0 (i + 1)) (edges_of a.r))
    z.pair_edge-all.result
one_more z =
    let channel_of = z.channel_of-c in
    let loop = z.loop-i in
    let a = z.args in
    paired_turn a.l a.r (by_map a.map) loop.i _ z.pair_edge-all.result
    (ap (by_map a.map) channel_of.ensures) (z.pair_edge-all.ensures _ loop.invariant)

pub returns-then-all-gt-EDGE_LIMIT : goal.returns-then-all-gt-EDGE_LIMIT
returns-then-all-gt-EDGE_LIMIT c =
    let a = c.args in
    let if1 = c.loop-i-test in
    record {
      within = λ h. absurd (omega (arith, c.if-all-gt-EDGE_LIMIT.true));
      over = λ h. paired_over a.l a.r (by_map a.map) (c.loop-i.i + 1) (omega (arith, if1.true))
          ((one_more (goal.at.returns-then-all-gt-EDGE_LIMIT c).After-pair_edge-all).over h);
    }

pub loop-i-preserved : goal.loop-i-preserved
loop-i-preserved c =
    (one_more (goal.at.loop-i-preserved c).After-pair_edge-all).within
    (omega (arith, c.if-all-gt-EDGE_LIMIT.false))

pub returns : goal.returns
returns c =
    let e : c.loop-i.i ≡ c.args.l.edge_count = omega arith in
    gathered _ _ (rw e at c.loop-i.invariant)
