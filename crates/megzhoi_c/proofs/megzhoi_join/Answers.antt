-- `megzhoi_c::megzhoi_join` meets its contract, by the callees' contracts and the definitions of `Returned`.
use borrow.Author.Rules.{rules}
use mathlib.Core.Path.{◌≡◌, ap, ◌∙◌}
use Rattle.joining.specs.Outcome.{Outcome}
use Rattle.megzhoi_c.specs.Returned.{of_numbers, of_join}
use Rattle.megzhoi_c.proofs.megzhoi_join.Goals as goal

pub returns : goal.returns
returns c =
    let done = c.join-answer.ensures in
    let numbers : of_numbers c.map.result ≡ of_join c.join-answer.result = search rules in record {
      four_numbers = c.hand_out.ensures ∙ c.numbers_of-f.ensures ∙ numbers ∙ ap (λ (o : Outcome). of_join o.answer) done;
      out_after = ap (λ (o : Outcome). o.out) done;
    }
