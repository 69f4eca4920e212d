-- has_few_invariants: every invariant passed so far has few comparisons.
use mathlib.Core.Path.{◌≡◌, sym, ◌∙◌}
use mathlib.Core.Bool.{true}
use Rattle.joined.specs.Joined.{few}
use Rattle.joining_record.specs.Records.{invariant_at}
use Rattle.joining_record.specs.Laws.{up_to_next, all_yes, all_not}
use native.Mathlib.Omega.{arith}
use Rattle.joining_record.proofs.has_few_invariants.Goals as goal

pub returns-then-not-has_few : goal.returns-then-not-has_few
returns-then-not-has_few c =
    sym (all_not c.args.n (λ j. few (invariant_at c.args.list j)) c.loop-i.i (omega arith)
    (sym c.has_few.ensures ∙ c.if-not-has_few.true))

pub loop-i-preserved : goal.loop-i-preserved
loop-i-preserved c =
    up_to_next (λ j. few (invariant_at c.args.list j) ≡ true) c.loop-i.i c.loop-i.invariant
    (sym c.has_few.ensures ∙ c.if-not-has_few.false)

pub returns : goal.returns
returns c =
    sym (all_yes c.args.n (λ j. few (invariant_at c.args.list j)) (λ j k. c.loop-i.invariant j (omega arith)))
