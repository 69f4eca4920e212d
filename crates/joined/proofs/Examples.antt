-- Posts joined (SPECIFICATION 16.1, 18), computed from their records.
use Rattle.std.specs.Prelude.{◌≡◌, refl, true, false, List, [], ◌∷◌, ℕ, ◌*◌, T, take, Ok}
use Rattle.std.proofs.Common.{ap, subst}
use Rattle.limits.specs.Limits.{shortest_tick}
use Rattle.systems.specs.Tests.{all, any}
use Rattle.bitmaps.specs.Bits.{tab_from}
use Rattle.reader_record.specs.declared.Direction.TheVariants.{Unused}
use Rattle.reader_record.specs.declared.Sign.{Sign}
use Rattle.reader_record.specs.declared.Sign.TheVariants.{AtMost, AtLeast}
use Rattle.reader_record.specs.declared.Comparison.{Comparison}
use Rattle.reader_record.specs.declared.Constraint.{Constraint}
use Rattle.reader_record.specs.declared.Location.{Location}
use Rattle.reader_record.specs.declared.Label.{Label}
use Rattle.reader_record.specs.declared.Label.TheVariants.{Input, Output}
use Rattle.reader_record.specs.declared.Assignment.{Assignment}
use Rattle.reader_record.specs.declared.Edge.{Edge}
use Rattle.reader_record.specs.declared.Text.{Text}
use Rattle.reader_record.specs.Record.{no_name, no_assignment, written_once, direction_of, assignment, edge, channel}
use Rattle.reader_constraints.specs.Constraints.{blank_constraint}
use Rattle.reader_lists.specs.State.{blank_edge}
use Rattle.refusals.specs.Answers.{answer_of}
use Rattle.reader.specs.Reading.{record_of, read_text}
use Rattle.reader_formed.proofs.Formed.{read_formed}
use Rattle.reader_examples.specs.Texts.{post, rearm, overridden, idle}
use Rattle.reader_examples.specs.Records.{set_to, post_record, rearm_record, overridden_record, idle_record}
use Rattle.reader_examples.specs.Read.{ReadsTo, post_read, rearm_read}
use Rattle.reader_tokens.specs.Scan.{agree as letters_agree, same}
use Rattle.reader_record.specs.Formed.{WellFormed}
use Rattle.clocks.specs.Meaning.{clock_value, compares, met, holds, invariant, assigned, after, equal_config, one_if, also, gives, edge_move, edge_moves, ticked, tick_move, moves, start_of}
use Rattle.clocks.specs.States.{most, constant_for, largest_in, largest_at, largest, values, ranges, state_count, cap, state, config, leads, state_moves, next, state_invariant, start_state, is_input, input, too_many, or_else, first_fault, fault, step_fault, state_fault, states_judged, judgement}
use Rattle.clocks.specs.Accepted.{Accepted}
use Rattle.pairing.specs.Channels.{WellNamed, EqualChannels, alike, first_from, lowest, partner, agree, matched, first_unmatched, verdict, unmatched, right_step}
use Rattle.pairing.specs.Equal.{read_named, equal_when_nothing}
use Rattle.joined.specs.Joined.{pair, shifted, both_constraints, both_assignments, matching, joined_location, joined_edge, paired_with, paired, has_channel, joined_channel, joined_text, few, counts_fit}
use Rattle.joined.proofs.Conjunction.{ConjunctionOf}
use Rattle.joined.proofs.Results.{texts_conjunction}

-- everything that joining and judging go through, opened
unfoldable pub opened : Unit {0}
unfolding letters_agree same alike first_from lowest partner agree matched first_unmatched verdict unmatched
    right_step all any tab_from blank_constraint blank_edge channel clock_value compares met holds invariant assigned
    after equal_config one_if also gives edge_move edge_moves ticked tick_move moves start_of most constant_for
    largest_in largest_at largest values ranges state_count cap state config leads state_moves next state_invariant
    start_state is_input input too_many or_else first_fault fault step_fault state_fault states_judged judgement pair
    shifted both_constraints written_once both_assignments matching joined_location joined_edge paired_with paired
    has_channel joined_channel joined_text few counts_fit
opened = tt

abbrev is : ℕ → Sign → ℕ → Comparison
is clock sign bound = record { clock = clock; sign = sign; bound = bound }

abbrev of : List Comparison → ℕ → Constraint
of l n = record { comparisons = l; count = n }

abbrev at : Constraint → Location
at g = record { name = no_name; invariant = g }

abbrev free : Constraint
free = of [] 0

abbrev to : ℕ → ℕ → Label → Assignment → Edge
to source target label second = record {
  source = source;
  target = target;
  guard = free;
  label = label;
  assignments = no_assignment ∷ second ∷ [];
}

-- Post and Rearm joined: two clocks, both invariants, Rearm's assignment of its own clock, `late` guarded by both
abbrev post_rearm : Text
post_rearm = record {
  channels = take 3 post_record.channels;
  channel_count = 3;
  clocks = [];
  clock_count = 2;
  locations =
      at (of (is 0 AtMost 3 ∷ is 1 AtMost 3 ∷ []) 2)
      ∷ at (of (is 0 AtMost 3 ∷ []) 1)
      ∷ at (of (is 1 AtMost 3 ∷ []) 1)
      ∷ at free
      ∷ [];
  location_count = 4;
  init = 0;
  edges =
      to 0 3 (Input 1) no_assignment
      ∷ to 1 3 (Input 1) no_assignment
      ∷ to 0 0 (Input 2) (set_to 0)
      ∷ to 1 1 (Input 2) no_assignment
      ∷ record {
        source = 0;
        target = 3;
        guard = of (is 0 AtLeast 3 ∷ is 1 AtLeast 3 ∷ []) 2;
        label = Output 3;
        assignments = no_assignment ∷ no_assignment ∷ [];
      }
      ∷ to 2 3 (Input 1) no_assignment
      ∷ to 3 3 (Input 1) no_assignment
      ∷ to 2 2 (Input 2) (set_to 0)
      ∷ to 3 3 (Input 2) no_assignment
      ∷ [];
  edge_count = 9;
}

-- the channels of Post, Rearm and Idle pair up by name
abbrev to_rearm : ℕ → ℕ
to_rearm = right_step post post_record rearm rearm_record

abbrev to_idle : ℕ → ℕ
to_idle = right_step post post_record idle idle_record

pub post_rearm_joined : joined_text to_rearm post_record rearm_record ≡ post_rearm
unfolding opened
post_rearm_joined = refl

pub post_rearm_fits : T (counts_fit (joined_text to_rearm post_record rearm_record))
unfolding opened
post_rearm_fits = tt

pub post_rearm_states : state_count post_rearm ≡ 100
unfolding opened
post_rearm_states = refl

pub post_rearm_judged : judgement post_rearm ≡ Ok tt
unfolding opened
post_rearm_judged = refl

-- no edge of Idle has `late`: Post's edge has no partner, and the joined record does not use the channel
pub post_idle_edges : (joined_text to_idle post_record idle_record).edge_count ≡ 8
unfolding opened
post_idle_edges = refl

pub post_idle_late : direction_of (joined_text to_idle post_record idle_record) 3 ≡ Unused
unfolding opened
post_idle_late = refl

pub post_idle_judged : judgement (joined_text to_idle post_record idle_record) ≡ Ok tt
unfolding opened
post_idle_judged = refl

-- states are counted from the joined record (SPECIFICATION 18.8): Post with 9 for the 3 of `late` has 22 states and
-- Idle 4, but the 9 is left out with its edge, and the joined record has 40
abbrev slow_record : Text
slow_record = record {
  channels = post_record.channels;
  channel_count = 3;
  clocks = post_record.clocks;
  clock_count = 1;
  locations = post_record.locations;
  location_count = 2;
  init = 0;
  edges =
      to 0 1 (Input 1) no_assignment
      ∷ to 0 0 (Input 2) no_assignment
      ∷ record {
        source = 0;
        target = 1;
        guard = of (is 0 AtLeast 9 ∷ []) 1;
        label = Output 3;
        assignments = no_assignment ∷ no_assignment ∷ [];
      }
      ∷ to 1 1 (Input 1) no_assignment
      ∷ to 1 1 (Input 2) no_assignment
      ∷ [];
  edge_count = 5;
}

pub slow_states : state_count slow_record * state_count idle_record ≡ 88
unfolding opened
slow_states = refl

pub slow_idle_states : state_count (joined_text to_idle slow_record idle_record) ≡ 40
unfolding opened
slow_idle_states = refl

-- a value that is overridden is left out too (SPECIFICATION 16.11, 18.5, 18.8): the text with `x = 7, x = 1` has 18
-- states, but the joined record has the 1 alone, and 100 states
abbrev to_overridden : ℕ → ℕ
to_overridden = right_step post post_record overridden overridden_record

pub overridden_states : state_count overridden_record ≡ 18
unfolding opened
overridden_states = refl

pub post_overridden_assignment : assignment (edge (joined_text to_overridden post_record overridden_record) 2) 1
    ≡ set_to 1
unfolding opened
post_overridden_assignment = refl

pub post_overridden_states : state_count (joined_text to_overridden post_record overridden_record) ≡ 100
unfolding opened
post_overridden_states = refl

-- three clocks are within the limits, four are not
pub three_clocks : counts_fit (joined_text to_rearm post_rearm rearm_record) ≡ true
unfolding opened
three_clocks = refl

pub four_clocks : counts_fit (joined_text to_rearm post_rearm post_rearm) ≡ false
unfolding opened
four_clocks = refl

-- the hypotheses can be met: Post and Rearm are accepted and have equal channels, so what is said of joined records
-- holds of theirs
module _ (s : List ℕ) (t : Text) (e : ReadsTo s t) where
  pub read_answer : answer_of (read_text shortest_tick s) ≡ Ok tt
  read_answer = ap answer_of e

  pub formed_record : WellFormed t
  formed_record = subst WellFormed (ap record_of e) (read_formed shortest_tick s read_answer)

  pub named_record : WellNamed s t
  named_record = subst (WellNamed s) (ap record_of e) (read_named shortest_tick s read_answer)

pub post_accepted : Accepted post_record
unfolding opened
post_accepted = record { formed = formed_record post post_record post_read; clean = refl }

pub rearm_accepted : Accepted rearm_record
unfolding opened
rearm_accepted = record { formed = formed_record rearm rearm_record rearm_read; clean = refl }

nothing_unmatched : unmatched post post_record rearm rearm_record ≡ Ok tt
unfolding opened
nothing_unmatched = refl

pub equal_channels : EqualChannels post post_record rearm rearm_record
equal_channels = equal_when_nothing post post_record rearm rearm_record (named_record post post_record post_read)
    (named_record rearm rearm_record rearm_read) nothing_unmatched

pub post_rearm_conjunction : ConjunctionOf to_rearm post_record rearm_record
    (joined_text to_rearm post_record rearm_record) post_accepted rearm_accepted
post_rearm_conjunction = texts_conjunction post post_record rearm rearm_record (named_record post post_record post_read)
    (named_record rearm rearm_record rearm_read) equal_channels post_accepted rearm_accepted post_rearm_fits
