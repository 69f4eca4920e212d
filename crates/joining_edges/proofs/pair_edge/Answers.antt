-- pair_edge: the right edges passed so far have added what `with_by` has of them; one more than the limit is too many.
use mathlib.Core.Path.{◌≡◌, sym, subst, ◌∙◌}
use mathlib.Core.List.{List}
use Prim.Native.Nat.{◌+◌}
use lib.ListN.{length-set, set}
use Rattle.reader_record.specs.declared.Edge.{Edge}
use Rattle.joining_edges.specs.Edges.{edge_at, Holds}
use Rattle.joining_edges.specs.Laws.{with_none, with_skip, with_take, with_over, holds_more, gathered, gathered_over}
use native.Mathlib.Omega.{arith}
use Rattle.joining_edges.proofs.pair_edge.Goals as goal

pub loop-i-init : goal.loop-i-init
loop-i-init c =
    let a = c.args in (
      c.requires.0,
      c.requires.1,
      λ xs h. subst (λ (ys : List Edge). Holds ys a.es)
          (sym (with_none a.m a.n a.w a.d a.a (edge_at a.right) xs)) h,
    )

pub loop-i-preserved-then-channel_of-d : goal.loop-i-preserved-then-channel_of-d
loop-i-preserved-then-channel_of-d c =
    let loop = c.loop-i in
    let a = c.args in (
      loop.invariant.0,
      loop.invariant.1,
      λ xs h. subst (λ (ys : List Edge). Holds ys (record { list = loop.list; count = loop.count }))
          (sym (with_skip a.m a.n a.w a.d a.a (edge_at a.right) loop.i xs
          (λ e. c.if-channel_of-d.true (c.channel_of.ensures ∙ e))))
          (loop.invariant.2 xs h),
    )

pub returns-then-count-ge-EDGE_LIMIT : goal.returns-then-count-ge-EDGE_LIMIT
returns-then-count-ge-EDGE_LIMIT c =
    let channel_of = c.channel_of in
    let loop-test = c.loop-i-test in
    let loop = c.loop-i in
    let a = c.args in
    λ xs h. gathered_over _ loop.list (with_over a.m a.n a.w a.d a.a (edge_at a.right) loop.i xs
    a.k
    loop-test.true (sym channel_of.ensures ∙ c.if-channel_of-d.false)
    (omega (arith, c.if-count-ge-EDGE_LIMIT.true, (loop.invariant.2 xs h).count)))

pub loop-i-preserved : goal.loop-i-preserved
loop-i-preserved c =
    let if1 = c.if-channel_of-d in
    let channel_of = c.channel_of in
    let loop = c.loop-i in
    let a = c.args in (
      simp length-set loop.invariant.0,
      omega (arith, c.if-count-ge-EDGE_LIMIT.false),
      λ xs h. subst (λ (ys : List Edge). Holds ys (record {
        list = set loop.list loop.count
            c.join_edge.result;
        count = loop.count + 1;
      }))
          (sym (with_take a.m a.n a.w a.d a.a (edge_at a.right) loop.i xs
          (sym channel_of.ensures ∙ if1.false)))
          (holds_more _ _ _ loop.list loop.count c.if-count-ge-EDGE_LIMIT.false (loop.invariant.2 xs h)
          c.join_edge.ensures),
    )

pub returns : goal.returns
returns c =
    let e : c.loop-i.i ≡ c.args.k = omega arith in
    λ xs h. gathered _ _ (rw e at (c.loop-i.invariant.2 xs h))
