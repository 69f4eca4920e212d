-- The states are counted from the ranges of the clocks.
use Rattle.clocks_states.specs.Laws.{counted, count_is}
use Rattle.joining.proofs.states_of.Goals as goal

pub state_count_of-requires : goal.state_count_of-requires
state_count_of-requires c = counted _ c.requires _ c.ranges_of-ranges.ensures

pub returns : goal.returns
returns c = count_is _ _ c.ranges_of-ranges.ensures _ c.state_count_of.ensures
