-- `megzhoi_c::megzhoi_search` meets its contract, by the callees' contracts and the definitions of `Returned`.
use borrow.Author.Rules.{rules}
use mathlib.Core.Path.{◌≡◌, ap, ◌∙◌}
use Rattle.search.specs.Outcome.{Outcome, scratch_free}
use Rattle.megzhoi_c.specs.Returned.{of_numbers, of_search}
use Rattle.megzhoi_c.proofs.megzhoi_search.Goals as goal

pub returns : goal.returns
returns c =
    let done = c.search-answer.ensures.0 in
    let numbers : of_numbers c.map.result ≡ of_search c.search-answer.result = search rules in record {
      four_numbers = c.hand_out.ensures ∙ c.numbers_of-f.ensures ∙ numbers ∙ ap (λ (o : Outcome). of_search o.answer) done;
      keep_after = ap (λ (o : Outcome). o.keep) done;
      run_after = ap (λ (o : Outcome). o.run) done;
      scratch = λ kept. c.search-answer.ensures.1 (ap (λ (o : Outcome). scratch_free o.answer) done ∙ kept);
    }
