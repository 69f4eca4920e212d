-- The counts, the states and the text of the joined record are judged in this order.
use Rattle.std.proofs.Common.{ap}
use Rattle.pairing.specs.declared.Pairing.{Pairing}
use Rattle.pairing.specs.Channels.{pairing}
use Rattle.joining.proofs.Joined.{joins, no_record, countable, writable, many_states, few_states}
use Rattle.joining.proofs.join_accepted.Goals as goal

pub returns-in_err-t : goal.returns-in_err-t
unfolding pairing
returns-in_err-t c =
    let args = c.args in
    no_record args.left.now args.right.now args.l args.r c.requires (ap (λ (p : Pairing). p.map) c.pair_channels-pairing.ensures)
    c.join_records.result c.ok_or.result args.out.now
    c.join_records.ensures c.ok_or.ensures.value c.in_err-t.was c.from_residual.ensures.1

pub states_of-requires : goal.states_of-requires
unfolding pairing
states_of-requires c =
    let args = c.args in
    countable args.left.now args.right.now args.l args.r c.requires (ap (λ (p : Pairing). p.map) c.pair_channels-pairing.ensures)
    (joins args.l args.r _ c.join_records.result c.ok_or.result c.in_ok-t.t c.join_records.ensures c.ok_or.ensures.value c.in_ok-t.was)

pub returns-then-states_of-gt-STATE_LIMIT : goal.returns-then-states_of-gt-STATE_LIMIT
unfolding pairing
returns-then-states_of-gt-STATE_LIMIT c =
    let args = c.args in
    many_states args.left.now args.right.now args.l args.r c.requires
    (ap (λ (p : Pairing). p.map) c.pair_channels-pairing.ensures)
    (joins args.l args.r _ c.join_records.result c.ok_or.result c.in_ok-t.t c.join_records.ensures c.ok_or.ensures.value c.in_ok-t.was) args.out.now
    c.states_of.ensures c.if-states_of-gt-STATE_LIMIT.true

pub write_text-requires : goal.write_text-requires
unfolding pairing
write_text-requires c =
    let args = c.args in
    writable args.left.now args.right.now args.l args.r c.requires (ap (λ (p : Pairing). p.map) c.pair_channels-pairing.ensures)
    (joins args.l args.r _ c.join_records.result c.ok_or.result c.in_ok-t.t c.join_records.ensures c.ok_or.ensures.value c.in_ok-t.was)

pub returns : goal.returns
unfolding pairing
returns c =
    let args = c.args in
    few_states args.left.now args.right.now args.l args.r c.requires (ap (λ (p : Pairing). p.map) c.pair_channels-pairing.ensures)
    (joins args.l args.r _ c.join_records.result c.ok_or.result c.in_ok-t.t c.join_records.ensures c.ok_or.ensures.value c.in_ok-t.was) args.out.now
    c.states_of.ensures c.if-states_of-gt-STATE_LIMIT.false
    c.write_text.ensures
