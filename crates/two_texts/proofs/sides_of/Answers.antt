-- Each number is the one that the callee promises.
use native.Mathlib.Omega.{arith}
use Rattle.clocks_states.specs.Laws.{countable, counted, count_is}
use Rattle.clocks_walk.specs.Start.{start_fits, start_first}
use Rattle.two_texts.proofs.Paths.{sides_done}
use Rattle.two_texts.proofs.sides_of.Goals as goal

pub overflow_add-steps : goal.overflow_add-steps
overflow_add-steps c = omega (arith, c.requires.0.formed.channels)

pub state_count_of-left_states-requires : goal.state_count_of-left_states-requires
state_count_of-left_states-requires c =
    let left = c.requires.0 in
    counted c.args.l (countable c.args.l left.formed) _ left.same

pub state_count_of-right_states-requires : goal.state_count_of-right_states-requires
state_count_of-right_states-requires c =
    let right = c.requires.1 in
    counted c.args.r (countable c.args.r right.formed) _ right.same

pub first_of-left_first-requires : goal.first_of-left_first-requires
first_of-left_first-requires c =
    let left = c.requires.0 in
    start_fits c.args.l _ left.same left.formed left.few

pub first_of-right_first-requires : goal.first_of-right_first-requires
first_of-right_first-requires c =
    let right = c.requires.1 in
    start_fits c.args.r _ right.same right.formed right.few

pub returns : goal.returns
returns c =
    let l = c.args.l in
    let r = c.args.r in
    let left = c.requires.0.same in
    let right = c.requires.1.same in
    sides_done l r _ _ _ _ (count_is l _ left _ c.state_count_of-left_states.ensures)
    (count_is r _ right _ c.state_count_of-right_states.ensures) (start_first l _ left _ c.first_of-left_first.ensures)
    (start_first r _ right _ c.first_of-right_first.ensures)
