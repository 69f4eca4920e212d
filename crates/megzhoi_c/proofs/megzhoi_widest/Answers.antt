-- `megzhoi_c::megzhoi_widest` meets its contract, by the callees' contracts and the definitions of `Returned`.
use borrow.Author.Rules.{rules}
use mathlib.Core.Path.{◌≡◌, ap, ◌∙◌}
use Rattle.tables.specs.Outcome.{Widened}
use Rattle.megzhoi_c.specs.Returned.{of_numbers, of_widest}
use Rattle.megzhoi_c.proofs.megzhoi_widest.Goals as goal

pub returns : goal.returns
returns c =
    let done = c.widest-answer.ensures in
    let numbers : of_numbers c.map.result ≡ of_widest c.widest-answer.result = search rules in record {
      four_numbers = c.hand_out.ensures ∙ c.numbers_of-f.ensures ∙ numbers ∙ ap (λ (o : Widened). of_widest o.answer) done;
      keep_after = ap (λ (o : Widened). o.keep) done;
      table_after = ap (λ (o : Widened). o.table) done;
    }
