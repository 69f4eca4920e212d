-- The clock that is read is one of a text, also beside a fault; each return is a step of `assign_items`.
use Rattle.std.proofs.Common.{◌<◌, Ok, arith, sym, ◌∙◌}
use Rattle.reader_parts.specs.Binds.{of_ok, err_is, beside_ok, beside_err}
use Rattle.reader_parts.specs.Facts.{ahead_no_fault}
use Rattle.reader_edges.specs.Assigns.{with_assignment}
use Rattle.reader_edges.specs.Facts.{clock_small}
use Rattle.reader_edges.specs.Progress.{comma_less, items_none, items_more, items_last}
use Rattle.reader_edges.proofs.Items.{stopped_small, so_far_none, so_far_more, so_far_last}
use Rattle.limits.specs.Limits.{clock_limit}
use Rattle.reader_edges.proofs.assign_items.Goals as goal

pub offset_bounds-all-clock : goal.offset_bounds-all-clock
offset_bounds-all-clock c =
    let (_, read) = beside_err _ _ c.in-Err.ensures in
    let small : c.in-Err.e.read.clock < clock_limit = rw (← read) (stopped_small _ _ _ _) in
    omega (arith, small)

pub bounds-all-clock : goal.bounds-all-clock
bounds-all-clock c =
    let (_, read) = beside_err _ _ c.in-Err.ensures in
    rw (← read) (stopped_small _ _ _ _)

pub offset_bounds-all-clock-in-Err : goal.offset_bounds-all-clock-in-Err
offset_bounds-all-clock-in-Err c =
    let (_, read) = beside_err _ _ c.in-Err.ensures in
    let small : c.in-Err.e.read.clock < clock_limit = rw (← read) (stopped_small _ _ _ _) in
    omega (arith, small)

pub bounds-all-clock-in-Err : goal.bounds-all-clock-in-Err
bounds-all-clock-in-Err c =
    let (_, read) = beside_err _ _ c.in-Err.ensures in
    rw (← read) (stopped_small _ _ _ _)

pub returns-in-Err : goal.returns-in-Err
unfolding with_assignment
returns-in-Err c =
    let (none, read) = beside_err _ _ c.in-Err.ensures in
    rw (
      c.beside.ensures,
      c.then_assigned.ensures,
      ← c.loop-x.invariant.rest,
      ← c.loop-x.invariant.so_far,
      items_none _ _ _ _ _ (sym none),
      so_far_none _ _ _ _ _ (sym none),
      read,
    )

pub offset_bounds-all-x : goal.offset_bounds-all-x
offset_bounds-all-x c =
    omega (arith, of_ok (λ r. r.clock < clock_limit) (clock_small _ _ _ _) (sym (beside_ok _ _ c.in-Ok.ensures)))

pub bounds-all-x : goal.bounds-all-x
bounds-all-x c = of_ok (λ r. r.clock < clock_limit) (clock_small _ _ _ _) (sym (beside_ok _ _ c.in-Ok.ensures))

pub offset_bounds-all-x-in-loop-x : goal.offset_bounds-all-x-in-loop-x
offset_bounds-all-x-in-loop-x c =
    omega (arith, of_ok (λ r. r.clock < clock_limit) (clock_small _ _ _ _) (sym (beside_ok _ _ c.in-Ok.ensures)))

pub bounds-all-x-in-loop-x : goal.bounds-all-x-in-loop-x
bounds-all-x-in-loop-x c =
    of_ok (λ r. r.clock < clock_limit) (clock_small _ _ _ _) (sym (beside_ok _ _ c.in-Ok.ensures))

pub returns-in_err-end : goal.returns-in_err-end
unfolding with_assignment
returns-in_err-end c =
    let x = sym (beside_ok _ _ c.in-Ok.ensures) in
    let last = sym c.ahead.ensures ∙ c.if-not-ahead.true in
    let (none, read) = beside_err _ _ c.in_err-end.ensures in
    rw (
      err_is c.from_residual.result c.from_residual.ensures.1,
      ← c.loop-x.invariant.rest,
      ← c.loop-x.invariant.so_far,
      items_last _ _ _ _ _ x last,
      so_far_last _ _ _ _ _ x last,
      sym c.take-closed.ensures ∙ none,
      ← c.then_assigned-in-loop-x.ensures,
      read,
    )

pub returns-then-not-ahead : goal.returns-then-not-ahead
unfolding with_assignment
returns-then-not-ahead c =
    let x = sym (beside_ok _ _ c.in-Ok.ensures) in
    let last = sym c.ahead.ensures ∙ c.if-not-ahead.true in
    rw (
      ← c.loop-x.invariant.rest,
      items_last _ _ _ _ _ x last,
      sym c.take-closed.ensures ∙ beside_ok _ _ c.in_ok-end.ensures,
      c.then_assigned-in-loop-x.ensures,
    )

-- a comma that is ahead is taken
pub returns-in_err-q : goal.returns-in_err-q
returns-in_err-q c =
    let more = sym c.ahead.ensures ∙ c.if-not-ahead.false in
    let (none, _) = beside_err _ _ c.in_err-q.ensures in
    absurd (ahead_no_fault _ (Ok _) _ more (sym c.take.ensures ∙ none))

pub loop-x-smaller : goal.loop-x-smaller
loop-x-smaller c =
    let x = sym (beside_ok _ _ c.in-Ok.ensures) in
    comma_less _ _ _ _ _ _ x (sym (beside_ok _ _ c.in_ok-q.ensures) ∙ c.take.ensures)

pub loop-x-preserved : goal.loop-x-preserved
unfolding with_assignment
loop-x-preserved c =
    let x = sym (beside_ok _ _ c.in-Ok.ensures) in
    let more = sym c.ahead.ensures ∙ c.if-not-ahead.false in
    let q = sym c.take.ensures ∙ beside_ok _ _ c.in_ok-q.ensures in
    rw c.then_assigned-in-loop-x.ensures (record {
      rest = rw (← c.loop-x.invariant.rest, items_more _ _ _ _ _ x more, q);
      so_far = rw (← c.loop-x.invariant.so_far, so_far_more _ _ _ _ _ x more (sym q));
    })
