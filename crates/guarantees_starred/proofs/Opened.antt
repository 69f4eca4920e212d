-- What the posts open to compute: states and moves, the pairing of
-- channels, tables, and the fast forms of the fixed points.
use Rattle.systems.specs.Tests.{all, any}
use Rattle.systems.proofs.Compute.{opened_fast}
use Rattle.systems.specs.Renumbered.{renumbered}
use Rattle.reader_record.specs.Record.{channel}
use Rattle.reader_tokens.specs.Scan.{agree as letters_agree, same}
use Rattle.reader_constraints.specs.Constraints.{blank_constraint}
use Rattle.reader_lists.specs.State.{blank_edge}
use Rattle.clocks.specs.Meaning.{clock_value, compares, met, holds, invariant, assigned, after, equal_config, one_if, also, gives, edge_move, edge_moves, ticked, tick_move, moves, start_of}
use Rattle.clocks.specs.States.{most, constant_for, largest_in, largest_at, largest, values, ranges, state_count, cap, state, config, leads, state_moves, next, state_invariant, start_state, is_input, input, too_many, or_else, first_fault, fault, step_fault, state_fault, states_judged, judgement}
use Rattle.clocks.proofs.Contract.{signature, system}
use Rattle.pairing.specs.Channels.{alike, first_from, lowest, partner, agree, matched, first_unmatched, verdict, unmatched, right_step}

unfoldable pub opened_states : Unit {0}
unfolding all any blank_constraint blank_edge channel clock_value compares met holds invariant assigned after equal_config one_if also gives
    edge_move edge_moves ticked tick_move moves start_of most constant_for
    largest_in largest_at largest values ranges state_count cap state config leads state_moves next state_invariant start_state
    is_input input too_many or_else
    first_fault fault step_fault state_fault states_judged judgement signature system
opened_states = tt

unfoldable pub opened_pairing : Unit {0}
unfolding letters_agree same alike first_from lowest partner agree matched first_unmatched verdict unmatched
    right_step renumbered
opened_pairing = tt

unfoldable pub opened : Unit {0}
unfolding opened_states opened_pairing opened_fast
opened = tt
