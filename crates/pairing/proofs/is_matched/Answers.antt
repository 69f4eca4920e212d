-- `is_matched` is `matched`: lacking where the partner is 0, else by the directions.
use mathlib.Core.Path.{sym, ◌∙◌}
use Rattle.clocks.specs.States.{input}
use Rattle.clocks_states.specs.Parts.{channel_input}
use Rattle.pairing.specs.Only.{only}
use Rattle.pairing.specs.Laws.{agree_equal, matched_none, matched_some}
use Rattle.pairing.proofs.is_matched.Goals as goal

pub returns-then-d-eq0 : goal.returns-then-d-eq0
returns-then-d-eq0 c =
    let a = c.args in
    sym (matched_none a.s.now (only a.l) a.u.now (only a.r) a.c _ c.partner_of-d.ensures c.if-d-eq0.true)

pub returns : goal.returns
unfolding input channel_input
returns c =
    let a = c.args in
    agree_equal c.is_input_step-a.result c.is_input_step-b.result
    ∙ rw (c.is_input_step-a.ensures, c.is_input_step-b.ensures)
    (sym (matched_some a.s.now (only a.l) a.u.now (only a.r) a.c _ c.partner_of-d.ensures c.if-d-eq0.false))
