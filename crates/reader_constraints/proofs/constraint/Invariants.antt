-- `constraint` is `constraint`: the comparisons from here on are those from the start, and so are those beside a fault.
use Rattle.std.specs.Prelude.{◌≡◌, ◌-◌, Ok}
use Rattle.reader_constraints.specs.Constraints.{blank_constraint, constraint_from, constraint}
use Rattle.reader_constraints.specs.SoFar.{constraint_so_far}
use Rattle.limits.specs.Limits.{comparison_limit}
use Rattle.reader_constraints.proofs.constraint.Given as goal

abbrev pub invariant-loop : goal.invariant-loop
invariant-loop l = record {
  counted : l.c.count ≡ l.counter;
  rest : constraint_from l.period (comparison_limit - l.counter) l.s l.names l.invariant' l.closing l.q l.c
      ≡ constraint l.period l.s l.p l.names l.invariant' l.closing;
  so_far : constraint_so_far l.period (comparison_limit - l.counter) l.s l.names l.invariant' (Ok l.q) l.c
      ≡ constraint_so_far l.period comparison_limit l.s l.names l.invariant' (Ok l.p) blank_constraint;
}
