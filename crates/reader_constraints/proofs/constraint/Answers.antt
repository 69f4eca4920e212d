-- `constraint` is `constraint`: the comparisons from here on are those from the start, and so are those beside a fault.
use Rattle.std.proofs.Common.{◌≡◌, ◌-◌, Ok, arith, refl, sym, ◌∙◌}
use Rattle.reader_parts.specs.Binds.{err_is, beside_ok, beside_err}
use Rattle.reader_parts.specs.Facts.{ahead_no_fault}
use Rattle.reader_constraints.specs.Constraints.{blank_constraint, with_comparison, constraint_from, constraint}
use Rattle.reader_constraints.specs.SoFar.{constraint_so_far}
use Rattle.reader_constraints.proofs.Laws.{turn_none, turn_last, turn_more, so_far_none, so_far_last, so_far_more, room_left}
use Rattle.limits.specs.Limits.{comparison_limit}
use Rattle.reader_constraints.proofs.constraint.Goals as goal

pub loop-init : goal.loop-init
unfolding constraint blank_constraint
loop-init c = rw c.blank_constraint-c.ensures (record { counted = refl; rest = refl; so_far = refl })

pub returns-in-Err : goal.returns-in-Err
returns-in-Err c =
    let room = room_left comparison_limit c.loop.counter (omega arith) in
    let r = rw room at c.loop.invariant.rest in
    let f = rw room at c.loop.invariant.so_far in
    let (none, read) = beside_err _ _ c.in-Err.ensures in
    rw (
      c.beside.ensures,
      c.with_comparison.ensures,
      ← r,
      ← f,
      turn_none _ _ _ _ _ _ _ _ (sym none),
      so_far_none _ _ _ _ _ _ _ none,
      read,
    )

pub returns-in_err-end : goal.returns-in_err-end
returns-in_err-end c =
    let room = room_left comparison_limit c.loop.counter (omega arith) in
    let r = rw room at c.loop.invariant.rest in
    let f = rw room at c.loop.invariant.so_far in
    let x = beside_ok _ _ c.in-Ok.ensures in
    let last = sym c.ahead.ensures ∙ c.if-not-ahead.true in
    let (none, read) = beside_err _ _ c.in_err-end.ensures in
    rw (
      err_is c.from_residual.result c.from_residual.ensures.1,
      ← r,
      ← f,
      turn_last _ _ _ _ _ _ _ _ (sym x) last,
      so_far_last _ _ _ _ _ _ _ x last,
      sym c.take.ensures ∙ none,
      sym c.with_comparison-c.ensures ∙ read,
    )

pub returns-then-not-ahead : goal.returns-then-not-ahead
returns-then-not-ahead c =
    let r = rw (room_left comparison_limit c.loop.counter (omega arith)) at c.loop.invariant.rest in
    let x = beside_ok _ _ c.in-Ok.ensures in
    let last = sym c.ahead.ensures ∙ c.if-not-ahead.true in
    rw (
      c.with_comparison-c.ensures,
      ← r,
      turn_last _ _ _ _ _ _ _ _ (sym x) last,
      sym c.take.ensures ∙ beside_ok _ _ c.in_ok-end.ensures,
    )

pub returns-in_err-q : goal.returns-in_err-q
returns-in_err-q c =
    let more = sym c.ahead.ensures ∙ c.if-not-ahead.false in
    let (none, _) = beside_err _ _ c.in_err-q.ensures in
    absurd (ahead_no_fault _ (Ok _) _ more (sym c.take-in-loop.ensures ∙ none))

pub loop-preserved : goal.loop-preserved
unfolding with_comparison
loop-preserved c =
    let room = room_left comparison_limit c.loop.counter (omega arith) in
    let r = rw room at c.loop.invariant.rest in
    let f = rw room at c.loop.invariant.so_far in
    let x = beside_ok _ _ c.in-Ok.ensures in
    let more = sym c.ahead.ensures ∙ c.if-not-ahead.false in
    let q = sym c.take-in-loop.ensures ∙ beside_ok _ _ c.in_ok-q.ensures in
    rw c.with_comparison-c.ensures (record {
      counted = omega arith;
      rest = rw (← r, turn_more _ _ _ _ _ _ _ _ (sym x) more, q);
      so_far = rw (← f, so_far_more _ _ _ _ _ _ _ x more q);
    })

pub returns-in-Ok-comparison_next : goal.returns-in-Ok-comparison_next
unfolding constraint_from
returns-in-Ok-comparison_next c =
    let none : comparison_limit - c.loop.counter ≡ 0 = omega arith in
    let r = rw none at c.loop.invariant.rest in
    rw (← r, beside_ok _ _ c.in-Ok-comparison_next.ensures)

pub returns-in-Err-comparison_next : goal.returns-in-Err-comparison_next
unfolding constraint_from constraint_so_far
returns-in-Err-comparison_next c =
    let none : comparison_limit - c.loop.counter ≡ 0 = omega arith in
    let r = rw none at c.loop.invariant.rest in
    let f = rw none at c.loop.invariant.so_far in
    let (fault, read) = beside_err _ _ c.in-Err-comparison_next.ensures in
    rw (c.beside-in-Err-comparison_next.ensures, ← r, ← f, fault)
