-- The numbers that are read are small.
use Rattle.std.proofs.Common.{◌<◌, ◌≤◌, arith, sym, ◌∙◌}
use Rattle.reader_parts.specs.Binds.{of_ok, beside_ok}
use Rattle.reader_parts.specs.Facts.{use_small}
use Rattle.reader_parts.specs.Slots.{first_clock}
use Rattle.reader_constraints.proofs.Facts.{constant_small}
use Rattle.limits.specs.Limits.{clock_limit, largest_constant}
use Rattle.reader_constraints.proofs.comparison_next.Goals as goal

pub overflow_cast-x : goal.overflow_cast-x
overflow_cast-x c =
    let used = sym (beside_ok _ _ c.in_ok-clock.ensures) ∙ c.use_name-used.ensures in
    omega (arith, of_ok (λ u. u.number < clock_limit) (use_small _ _ first_clock clock_limit _ _) used)

pub overflow_cast-x-2 : goal.overflow_cast-x-2
overflow_cast-x-2 c =
    let given = sym (beside_ok _ _ c.in_ok-bound.ensures) ∙ c.constant.ensures in
    omega (arith, of_ok (λ a. a.value ≤ largest_constant) (constant_small _ _ _ _) given)
