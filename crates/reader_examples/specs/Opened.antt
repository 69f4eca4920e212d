-- Everything that reading goes through, opened for theorems that compute.
use Rattle.reader_tokens.specs.Scan.{is_space, is_letter, is_digit, is_part, run, past, numeral_value, agree, same}
use Rattle.reader_tokens.specs.Tokens.{words, word_from, word_kind, is_pair, is_single, mark_kind, mark_length, mark_at, word_at, token_from, token_at}
use Rattle.reader_parts.specs.Stages.{take, ahead, name_of, name_next}
use Rattle.reader_parts.specs.Names.{differs, slot_of, declare_name, declare, use_of, use_name}
use Rattle.reader_constraints.specs.Constraints.{in_ticks, constant_of, constant, least_after, least_constant, sign_of, sign_next, comparison_next, blank_constraint, with_comparison, constraint_from, constraint, optional}
use Rattle.reader_edges.specs.Labels.{mark_of, mark_next, fits, mark_judged, label_of, label_next}
use Rattle.reader_edges.specs.Assigns.{no_assignments, then_assigned, with_assignment, assign_next, assigns_from, assign_items, assigns}
use Rattle.reader_edges.specs.Edges.{edge_next}
use Rattle.reader_lists.specs.State.{blank_edge, no_text, next_token, with_channel, with_clock, with_location, direction_by, marked, with_edge, with_init}
use Rattle.reader_lists.specs.Lists.{channel_item, clock_item, location_item, edge_item, items_from, items}
use Rattle.reader.specs.Faults.{refusal_of}
use Rattle.reader.specs.Reading.{start, list_part, channel_part, process_read, process_part, location_part, init_read, init_part, end_read, end_part, read_whole, read_text}
use Rattle.limits.specs.Limits.{tick_allowed}

unfoldable pub opened : Unit {0}
unfolding is_space is_letter is_digit is_part run past numeral_value agree same words word_from word_kind is_pair
    is_single mark_kind mark_length mark_at word_at token_from token_at take ahead name_of name_next differs slot_of
    declare_name declare use_of use_name in_ticks constant_of constant least_after least_constant sign_of sign_next
    comparison_next blank_constraint
    with_comparison constraint_from constraint optional mark_of mark_next fits mark_judged label_of label_next
    no_assignments then_assigned with_assignment assign_next assigns_from assign_items assigns edge_next blank_edge
    no_text next_token with_channel with_clock with_location direction_by marked with_edge with_init channel_item clock_item
    location_item edge_item items_from items start list_part channel_part process_read process_part location_part
    init_read init_part end_read end_part read_whole refusal_of tick_allowed read_text
opened = tt
