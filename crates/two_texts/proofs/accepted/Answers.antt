-- The sizes and the inputs are those that the callees promise.
use Rattle.clocks_states.specs.Laws.{inputs_done}
use Rattle.two_texts.proofs.Paths.{numbers_done}
use Rattle.two_texts.proofs.accepted.Goals as goal

pub inputs_of-inputs-requires : goal.inputs_of-inputs-requires
inputs_of-inputs-requires c = c.requires.0.formed.channels

pub returns : goal.returns
returns c =
    numbers_done c.args.l c.args.r _ _ c.sides_of-sides.ensures
    (inputs_done c.args.l _ c.inputs_of-inputs.ensures)
