-- has_few_guards: every guard passed so far has few comparisons.
use mathlib.Core.Path.{◌≡◌, sym, ◌∙◌}
use mathlib.Core.Bool.{true}
use Rattle.joined.specs.Joined.{few}
use Rattle.joining_edges.specs.Edges.{edge_at}
use Rattle.joining_record.specs.Laws.{up_to_next, all_yes, all_not}
use native.Mathlib.Omega.{arith}
use Rattle.joining_record.proofs.has_few_guards.Goals as goal

pub returns-then-not-has_few : goal.returns-then-not-has_few
returns-then-not-has_few c =
    sym (all_not c.args.es.count (λ j. few (edge_at c.args.es.list j).guard) c.loop-i.i (omega arith)
    (sym c.has_few.ensures ∙ c.if-not-has_few.true))

pub loop-i-preserved : goal.loop-i-preserved
loop-i-preserved c =
    up_to_next (λ j. few (edge_at c.args.es.list j).guard ≡ true) c.loop-i.i c.loop-i.invariant
    (sym c.has_few.ensures ∙ c.if-not-has_few.false)

pub returns : goal.returns
returns c =
    sym (all_yes c.args.es.count (λ j. few (edge_at c.args.es.list j).guard) (λ j k. c.loop-i.invariant j (omega arith)))
