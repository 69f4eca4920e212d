-- `megzhoi_c::megzhoi_safe_states` meets its contract, by the callees' contracts and the definitions of `Returned`.
use borrow.Author.Rules.{rules}
use mathlib.Core.Path.{◌≡◌, ap, ◌∙◌}
use Rattle.safe_states.specs.Outcome.{Outcome}
use Rattle.megzhoi_c.specs.Returned.{of_numbers, of_safe}
use Rattle.megzhoi_c.proofs.megzhoi_safe_states.Goals as goal

pub returns : goal.returns
returns c =
    let done = c.safe_states-answer.ensures in
    let numbers : of_numbers c.map.result ≡ of_safe c.safe_states-answer.result = search rules in record {
      four_numbers = c.hand_out.ensures ∙ c.numbers_of-f.ensures ∙ numbers ∙ ap (λ (o : Outcome). of_safe o.answer) done;
      keep_after = ap (λ (o : Outcome). o.keep) done;
    }
