-- `step_of` is `right_step`: the tick, a number past the channels, a channel.
use borrow.Author.Rules.{rules}
use native.Mathlib.Omega.{arith}
use mathlib.Core.Path.{sym, ◌∙◌}
use Rattle.pairing.specs.Only.{only}
use Rattle.pairing.specs.Laws.{step_none, step_over, step_in}
use Rattle.pairing.proofs.step_of.Goals as goal

pub returns-then-c-tick : goal.returns-then-c-tick
returns-then-c-tick c =
    let a = c.args in
    sym (step_none a.s.now (only a.l) a.u.now (only a.r) a.c c.if-c-tick.true)

pub returns-then-l-c : goal.returns-then-l-c
returns-then-l-c c =
    let a = c.args in
    sym (step_over a.s.now (only a.l) a.u.now (only a.r) a.c c.if-c-tick.false c.if-l-c.true)

pub bounds-l-c : goal.bounds-l-c
bounds-l-c c = omega (arith, c.requires.0)

pub returns : goal.returns
returns c =
    let a = c.args in
    let if1 = c.if-c-tick in
    c.partner_of.ensures ∙ sym (step_in a.s.now (only a.l) a.u.now (only a.r) a.c if1.false (omega arith))
