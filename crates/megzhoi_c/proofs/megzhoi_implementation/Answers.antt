-- `megzhoi_c::megzhoi_implementation` meets its contract, by the callees' contracts and the definitions of `Returned`.
use borrow.Author.Rules.{rules}
use mathlib.Core.Path.{◌≡◌, ap, ◌∙◌}
use Rattle.std.specs.Prelude.{Result, ⊤}
use Rattle.refusals.specs.declared.Refusal.{Refusal}
use Rattle.megzhoi_c.specs.Returned.{of_numbers, of_verdict}
use Rattle.megzhoi_c.proofs.megzhoi_implementation.Goals as goal

pub returns : goal.returns
returns c =
    let numbers : of_numbers c.map.result ≡ of_verdict c.implementation-answer.result 0 = search rules in
    c.hand_out.ensures ∙ c.numbers_of-f.ensures ∙ numbers
    ∙ ap (λ (v : Result ⊤ Refusal). of_verdict v 0) c.implementation-answer.ensures
