-- `megzhoi_c::megzhoi_read` meets its contract, by the callees' contracts and the definitions of `Returned`.
use borrow.Author.Rules.{rules}
use mathlib.Core.Path.{◌≡◌, ap, ◌∙◌}
use Rattle.std.specs.Prelude.{Result}
use Rattle.refusals.specs.declared.Refusal.{Refusal}
use Rattle.refusals.specs.Answers.{answer_of}
use Rattle.clocks_read.specs.declared.Reading.{Reading}
use Rattle.clocks_read.specs.Reading.{text_in, states_in}
use Rattle.megzhoi_c.specs.Returned.{of_numbers, of_verdict, recorded}
use Rattle.megzhoi_c.proofs.megzhoi_read.Goals as goal

pub returns : goal.returns
returns c =
    let done = c.read-answer.ensures.outcome in
    let before = c.args.out.now in
    let numbers : of_numbers c.map.result ≡ of_verdict (answer_of c.read-answer.result) (states_in c.read-answer.result) = search rules in record {
      four_numbers = c.hand_out.ensures ∙ c.numbers_of-f.ensures ∙ numbers
          ∙ ap (λ (r : Result Reading Refusal). of_verdict (answer_of r) (states_in r)) done;
      out_after = c.write_record.ensures
          ∙ ap (λ (r : Result Reading Refusal). recorded (answer_of r) (text_in r) (states_in r) before) done;
    }
