-- `megzhoi_c::megzhoi_check` meets its contract, by the callees' contracts and the definitions of `Returned`.
use borrow.Author.Rules.{rules}
use mathlib.Core.Path.{◌≡◌, ap, ◌∙◌}
use Rattle.tables.specs.Outcome.{Checked}
use Rattle.megzhoi_c.specs.Returned.{of_numbers, of_check}
use Rattle.megzhoi_c.proofs.megzhoi_check.Goals as goal

pub returns : goal.returns
returns c =
    let done = c.check-answer.ensures in
    let numbers : of_numbers c.map.result ≡ of_check c.check-answer.result = search rules in record {
      four_numbers = c.hand_out.ensures ∙ c.numbers_of-f.ensures ∙ numbers ∙ ap (λ (o : Checked). of_check o.answer) done;
      keep_after = ap (λ (o : Checked). o.keep) done;
    }
