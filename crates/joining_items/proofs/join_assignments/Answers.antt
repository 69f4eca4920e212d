-- join_assignments: three assignments that are right are all.
use Rattle.joining_items.specs.Laws.{three_assignments}
use Rattle.joining_items.proofs.join_assignments.Goals as goal

pub returns : goal.returns
returns c =
    let a = c.args in
    three_assignments a.m a.n a.a a.b _ _ _ c.requires c.assignment_at-x.ensures
    c.assignment_at-y.ensures c.assignment_at-z.ensures
