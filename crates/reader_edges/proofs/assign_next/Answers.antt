-- The value that is read is small.
use Rattle.std.proofs.Common.{◌≤◌, arith, sym, ◌∙◌}
use Rattle.reader_parts.specs.Binds.{of_ok, beside_ok}
use Rattle.reader_constraints.proofs.Facts.{constant_small}
use Rattle.limits.specs.Limits.{largest_constant}
use Rattle.reader_edges.proofs.assign_next.Goals as goal

pub overflow_cast-x : goal.overflow_cast-x
overflow_cast-x c =
    let given = sym (beside_ok _ _ c.in_ok-given.ensures) ∙ c.constant-constant.ensures in
    omega (arith, of_ok (λ a. a.value ≤ largest_constant) (constant_small _ _ _ _) given)
