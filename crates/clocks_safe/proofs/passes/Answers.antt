-- An input that decides takes the state out; without one, a step of the system's own has to decide.
use mathlib.Core.Path.{sym, ◌∙◌}
use Rattle.clocks_safe.proofs.TestLaws.{input_decides, own_decides}
use Rattle.clocks_safe.proofs.passes.Goals as goal

pub returns-then-some_decides : goal.returns-then-some_decides
returns-then-some_decides c = sym (input_decides _ _ _ _ _ (sym c.some_decides.ensures ∙ c.if-some_decides.true))

pub returns : goal.returns
returns c =
    let none = sym c.some_decides.ensures ∙ c.if-some_decides.false in
    c.some_decides-2.ensures ∙ sym (own_decides _ _ _ _ _ none)
