-- The implementation check on the texts' bytes (SPECIFICATION 16.8), Sheet by tick lengths (SPECIFICATION 16.9), texts
-- with two edges for one input (SPECIFICATION 16.10), and late clocks (SPECIFICATION 16.11), computed.
use Rattle.std.specs.Prelude.{◌≡◌, refl, true, List, ℕ, Option, Some, None, Result, Ok, Err, ⊤}
use Rattle.std.proofs.Common.{ap, ◌∙◌}
use Rattle.refusals.specs.declared.Refusal.{Refusal}
use Rattle.refusals.specs.declared.Refusal.TheVariants as refusal
use Rattle.refusals.specs.Refusals.{tick_out_of_range}
use Rattle.refusals.specs.declared.File.TheVariants.{Left}
use Rattle.refusals.specs.Answers.{answer_of}
use Rattle.reader_record.specs.declared.Text.{Text}
use Rattle.reader_examples.specs.Texts.{post, rearm, early, strict, loose, sheet, hush, idle, spare, twice, stay_or_go, reset_or_not, woken, overridden, too_late, late_or_not}
use Rattle.reader_examples.specs.Records.{post_record, rearm_record, early_record, strict_record, loose_record, sheet_record, hush_record, idle_record, spare_record, twice_record, stay_or_go_record, reset_or_not_record, woken_record, too_late_record, late_or_not_record}
use Rattle.reader_examples.specs.Read.{loose_read, spare_read, sheet_read, sheet_refused, stay_or_go_read, reset_or_not_read, too_late_read, late_or_not_read}
use Rattle.reachable.specs.declared.Finding.{Finding}
use Rattle.reachable.specs.declared.Finding.TheVariants.{OutputBesideTick, NeitherPossible}
use Rattle.reachable.proofs.Examples.{opened_check}
use Rattle.reachable.specs.Check.{neither}
use Rattle.clocks.specs.declared.Flaw.{Flaw}
use Rattle.clocks.specs.declared.Flaw.TheVariants.{NoMove, TwoEdges}
use Rattle.clocks.specs.States.{input, next, judgement}
use Rattle.clocks_read.specs.declared.Reading.{Reading}
use Rattle.clocks_read.specs.Reading.{judged_reading, parsed_reading, read_outcome, text_in, states_in}
use Rattle.reader.specs.Reading.{read_text}
use Rattle.implementation_check.specs.Outcome.{text_finding, refusal_of, found_answer, answered, implementation_outcome}
use Rattle.guarantees_starred.proofs.Opened.{opened_states}
use Rattle.guarantees_starred.proofs.Posts.{reading_of, read_known, post_known, rearm_known, early_known, strict_known, hush_known, idle_known, twice_known, woken_known, overridden_known}
use Rattle.limits.specs.Limits.{shortest_tick}

-- a text s that reads to the record t, in which f is found
found : (period : ℕ) (s : List ℕ) (t : Text) (f : Option Finding) → read_outcome period s ≡ reading_of t → text_finding t ≡ f
    → implementation_outcome period s ≡ found_answer f
unfolding implementation_outcome answered
found period s t f e q = ap answered e ∙ ap found_answer q

-- Loose and Spare are accepted
pub loose_known : read_outcome shortest_tick loose ≡ reading_of loose_record
unfolding opened_states
loose_known = read_known shortest_tick loose loose_record loose_read refl

pub spare_known : read_outcome shortest_tick spare ≡ reading_of spare_record
unfolding opened_states
spare_known = read_known shortest_tick spare spare_record spare_read refl

pub post_passes : implementation_outcome shortest_tick post ≡ Ok tt
unfolding opened_states opened_check text_finding refusal_of found_answer
post_passes = found shortest_tick post post_record None post_known.read refl

pub rearm_passes : implementation_outcome shortest_tick rearm ≡ Ok tt
unfolding opened_states opened_check text_finding refusal_of found_answer
rearm_passes = found shortest_tick rearm rearm_record None rearm_known.read refl

pub early_passes : implementation_outcome shortest_tick early ≡ Ok tt
unfolding opened_states opened_check text_finding refusal_of found_answer
early_passes = found shortest_tick early early_record None early_known.read refl

pub strict_passes : implementation_outcome shortest_tick strict ≡ Ok tt
unfolding opened_states opened_check text_finding refusal_of found_answer
strict_passes = found shortest_tick strict strict_record None strict_known.read refl

pub idle_passes : implementation_outcome shortest_tick idle ≡ Ok tt
unfolding opened_states opened_check text_finding refusal_of found_answer
idle_passes = found shortest_tick idle idle_record None idle_known.read refl

pub loose_beside : implementation_outcome shortest_tick loose ≡ Err (refusal.OutputBesideTick Left 2 3)
unfolding opened_states opened_check text_finding refusal_of found_answer
loose_beside = found shortest_tick loose loose_record (Some (OutputBesideTick 2 3)) loose_known refl

pub hush_neither : implementation_outcome shortest_tick hush ≡ Err (refusal.NeitherPossible Left 3)
unfolding opened_states opened_check text_finding refusal_of found_answer
hush_neither = found shortest_tick hush hush_record (Some (NeitherPossible 3)) hush_known.read refl

-- Spare passes although state 10, Off with x = 0, has a fault: no run leads there
pub spare_passes : implementation_outcome shortest_tick spare ≡ Ok tt
unfolding opened_states opened_check text_finding refusal_of found_answer
spare_passes = found shortest_tick spare spare_record None spare_known refl

pub spare_count : states_in (read_outcome shortest_tick spare) ≡ 15
unfolding opened_states
spare_count = ap states_in spare_known

pub spare_fault : neither 4 (input (text_in (read_outcome shortest_tick spare)))
    (next (text_in (read_outcome shortest_tick spare))) 10 ≡ true
unfolding opened_states opened_check
spare_fault = ap (λ (o : Result Reading Refusal). neither 4 (input (text_in o)) (next (text_in o)) 10) spare_known

-- Sheet at two tick lengths at which it is an implementation, and at one at which it is none (SPECIFICATION 16.9)
pub sheet_1000 : read_outcome 1000 sheet ≡ reading_of (sheet_record 3 3)
unfolding opened_states
sheet_1000 = read_known 1000 sheet (sheet_record 3 3) sheet_read.at_1000 refl

pub sheet_2000 : read_outcome 2000 sheet ≡ reading_of (sheet_record 2 1)
unfolding opened_states
sheet_2000 = read_known 2000 sheet (sheet_record 2 1) sheet_read.at_2000 refl

sheet_60000 : read_outcome 60000 sheet ≡ reading_of (sheet_record 0 0)
unfolding opened_states
sheet_60000 = read_known 60000 sheet (sheet_record 0 0) sheet_read.at_60000 refl

pub sheet_passes : implementation_outcome 1000 sheet ≡ Ok tt
unfolding opened_states opened_check text_finding refusal_of found_answer
sheet_passes = found 1000 sheet (sheet_record 3 3) None sheet_1000 refl

pub sheet_beside : implementation_outcome 2000 sheet ≡ Err (refusal.OutputBesideTick Left 1 3)
unfolding opened_states opened_check text_finding refusal_of found_answer
sheet_beside = found 2000 sheet (sheet_record 2 1) (Some (OutputBesideTick 1 3)) sheet_2000 refl

pub sheet_longest : implementation_outcome 60000 sheet ≡ Ok tt
unfolding opened_states opened_check text_finding refusal_of found_answer
sheet_longest = found 60000 sheet (sheet_record 0 0) None sheet_60000 refl

pub sheet_count : states_in (read_outcome 1000 sheet) ≡ 10
unfolding opened_states
sheet_count = ap states_in sheet_1000

pub sheet_fewer : states_in (read_outcome 2000 sheet) ≡ 8
unfolding opened_states
sheet_fewer = ap states_in sheet_2000

-- what reading refuses is refused
refused_so : (period : ℕ) (s : List ℕ) (r : Refusal) → read_text period s ≡ Err r
    → answer_of (read_outcome period s) ≡ Err r
unfolding read_outcome parsed_reading
refused_so period s r e = ap (λ (p : Result Text Refusal). answer_of (parsed_reading p)) e

pub sheet_large : answer_of (read_outcome shortest_tick sheet) ≡ Err (refusal.ConstantTooLarge Left 78)
sheet_large = refused_so shortest_tick sheet _ sheet_refused.at_1

pub sheet_zero : answer_of (read_outcome 0 sheet) ≡ Err (tick_out_of_range 0)
sheet_zero = refused_so 0 sheet _ sheet_refused.at_0

-- Twice is an implementation as Post is
pub twice_passes : implementation_outcome shortest_tick twice ≡ Ok tt
unfolding opened_states opened_check text_finding refusal_of found_answer
twice_passes = found shortest_tick twice twice_record None twice_known.read refl

-- a text whose record is judged so
judged_so : (s : List ℕ) (t : Text) (j : Result ⊤ Flaw) → read_text shortest_tick s ≡ Ok t
    → judgement t ≡ j → answer_of (read_outcome shortest_tick s) ≡ answer_of (judged_reading j t)
unfolding read_outcome parsed_reading
judged_so s t j e q = ap (λ (p : Result Text Refusal). answer_of (parsed_reading p)) e
    ∙ ap (λ (k : Result ⊤ Flaw). answer_of (judged_reading k t)) q

-- where the second of two edges leads elsewhere: to another location, or with another value of x where it is not 0
pub stay_refused : answer_of (read_outcome shortest_tick stay_or_go) ≡ Err (refusal.TwoEdges Left 0 1)
unfolding opened_states judged_reading
stay_refused = judged_so stay_or_go stay_or_go_record (Err (TwoEdges 0 1)) stay_or_go_read refl

pub reset_refused : answer_of (read_outcome shortest_tick reset_or_not) ≡ Err (refusal.TwoEdges Left 1 1)
unfolding opened_states judged_reading
reset_refused = judged_so reset_or_not reset_or_not_record (Err (TwoEdges 1 1)) reset_or_not_read refl

-- late clocks: Woken is an implementation; an overridden value counts towards M; a value that the target's invariant does
-- not allow gives no move; an edge that sets x to 1 leads elsewhere than one that leaves it at 0
pub woken_passes : implementation_outcome shortest_tick woken ≡ Ok tt
unfolding opened_states opened_check text_finding refusal_of found_answer
woken_passes = found shortest_tick woken woken_record None woken_known.read refl

pub overridden_count : states_in (read_outcome shortest_tick overridden) ≡ 18
overridden_count = ap states_in overridden_known.read ∙ overridden_known.size

pub too_late_refused : answer_of (read_outcome shortest_tick too_late) ≡ Err (refusal.InputWithoutMove Left 0 2)
unfolding opened_states judged_reading
too_late_refused = judged_so too_late too_late_record (Err (NoMove 0 2)) too_late_read refl

pub late_refused : answer_of (read_outcome shortest_tick late_or_not) ≡ Err (refusal.TwoEdges Left 0 2)
unfolding opened_states judged_reading
late_refused = judged_so late_or_not late_or_not_record (Err (TwoEdges 0 2)) late_or_not_read refl
