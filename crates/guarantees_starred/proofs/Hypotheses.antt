-- That the hypotheses of the demands (SPECIFICATION 17.2, 17.3, 17.8, 17.9, 17.12, 17.13) can be met: by Post
-- (SPECIFICATION 16.1) against itself, with slices that are long enough, by Sheet at tick length 1,000, by texts with two
-- edges for one input (SPECIFICATION 16.10), and by texts with late clocks (SPECIFICATION 16.11).
use Rattle.std.specs.Prelude.{◌≡◌, Bool, true, List, ℕ, zero, suc, ◌≤◌, ◌<◌, T, length, Result, Some}
use Rattle.std.proofs.Math.Path.{refl}
use Rattle.std.proofs.Common.{sym, ap, subst, ◌∙◌, arith}
use Rattle.std.proofs.Math.Option.{some}
use Rattle.reader_record.specs.declared.Text.{Text}
use Rattle.reader_record.specs.Record.{assignment, edge}
use Rattle.refusals.specs.declared.Refusal.{Refusal}
use Rattle.refusals.specs.Answers.{answer_of}
use Rattle.reader.specs.Reading as reader
use Rattle.reader_formed.proofs.Formed.{read_formed}
use Rattle.reader_examples.specs.Texts.{post, strict, loose, sheet, hush, twice, stay_or_go, reset_or_not, woken_twice}
use Rattle.reader_examples.specs.Records.{twice_record, woken_twice_record}
use Rattle.reader_examples.specs.Read.{twice_read, woken_twice_read}
use Rattle.clocks.specs.Meaning.{clock_value, after, moves, led, start_of}
use Rattle.clocks.specs.Faults.{edge_gives, TwoWays, NoneLower}
use Rattle.clocks.proofs.Standing.{start_stands}
use Rattle.clocks_read.specs.Reading.{text_in}
use Rattle.clocks_read.specs.Laws.{read_accepted}
use Rattle.two_texts.specs.Two.{text_of}
use Rattle.systems.specs.Tests.{at}
use Rattle.systems.specs.Finite.{safe}
use Rattle.reachable.specs.declared.Finding.TheVariants.{OutputBesideTick, NeitherPossible}
use Rattle.reachable.specs.Meaning.{Says, OwnImplementation}
use Rattle.systems.proofs.Theorems.{implementation_iff}
use Rattle.two_operations.specs.Outcome.{search_outcome, check_outcome, widest_outcome}
use Rattle.tables_header.specs.Header.{fits}
use Rattle.demands.proofs.Long.{no_refusal}
use Rattle.demands.specs.Words.{Consistent, LongEnough, RightForm}
use Rattle.guarantees.specs.Texts.{AcceptedText, states, meaning, number, EqualChannels}
use Rattle.guarantees.specs.Lengths.{LengthRefused}
use Rattle.guarantees.specs.Parallel.{record_of, StatesJudged}
use Rattle.guarantees.proofs.Guarantees.{lengths_judged, implementation_exactly, parallel_exactly, assignments_mean}
use Rattle.guarantees.proofs.Setting.{left_capping, Left}
use Rattle.guarantees_starred.proofs.Opened.{opened_states}
use Rattle.guarantees_starred.proofs.Posts.{read_known, post_keep, post_known, strict_known, twice_known}
use Rattle.guarantees_starred.proofs.Runs.{post_post_equal, strict_post_equal, twice_post_equal}
use Rattle.guarantees_starred.specs.Sentences.{Room, ten_by_ten, diagonal_raster}
use Rattle.guarantees_starred.proofs.Tables.{diagonal_fits}
use Rattle.guarantees_starred.proofs.Outcomes.{left_accepted, right_accepted, channels_equal, facts}
use Rattle.guarantees_starred.proofs.Implementations.{sheet_1000}
use Rattle.guarantees_starred.proofs.Starred.{starred_posts}
use Rattle.limits.specs.Limits.{shortest_tick, TickLength}

-- an accepted text
pub post_accepted : AcceptedText shortest_tick post
post_accepted = left_accepted post_known post_known post_post_equal

-- an accepted text with strict signs (SPECIFICATION 16.2)
pub strict_accepted : AcceptedText shortest_tick strict
strict_accepted = left_accepted strict_known post_known strict_post_equal

-- an accepted text at another tick length than 1, which is an implementation there (SPECIFICATION 16.9)
pub sheet_accepted : AcceptedText 1000 sheet
sheet_accepted = ap answer_of sheet_1000

pub sheet_own : OwnImplementation (meaning 1000 sheet sheet_accepted) (number 1000 sheet sheet_accepted)
sheet_own = (implementation_exactly 1000 sheet).itself starred_posts.sheet_passes sheet_accepted

-- a tick length that is allowed, as its being accepted says, and one that is not: SPECIFICATION 17.9 has both cases
pub length_allowed : TickLength 1000
length_allowed = (lengths_judged 1000).accepted sheet sheet_accepted

pub length_refused : LengthRefused 0
length_refused = (lengths_judged 0).refused (λ t. omega (arith, t.0))

-- texts for which the implementation check succeeds, gives 22 and gives 23: what SPECIFICATION 17.8 says of each answer
-- is said of one
pub post_own : OwnImplementation (meaning shortest_tick post post_accepted) (number shortest_tick post post_accepted)
post_own = (implementation_exactly shortest_tick post).itself starred_posts.post_passes post_accepted

pub loose_says : (a : AcceptedText shortest_tick loose)
    × Says (meaning shortest_tick loose a) (number shortest_tick loose a) (Some (OutputBesideTick 2 3))
loose_says = ((implementation_exactly shortest_tick loose).beside 2 3).0 starred_posts.loose_beside

pub hush_says : (a : AcceptedText shortest_tick hush)
    × Says (meaning shortest_tick hush a) (number shortest_tick hush a) (Some (NeitherPossible 3))
hush_says = ((implementation_exactly shortest_tick hush).neither 3).0 starred_posts.hush_neither

-- texts that reading refuses with 11: what SPECIFICATION 17.12 says of the answer is said of edges that lead to different
-- locations, and of edges after which a clock differs
pub stay_apart : StatesJudged shortest_tick stay_or_go × NoneLower (record_of shortest_tick stay_or_go) 0 1
    × TwoWays (record_of shortest_tick stay_or_go) 0 1
stay_apart = ((parallel_exactly shortest_tick stay_or_go).eleven 0 1).0 starred_posts.stay_refused

pub reset_apart : StatesJudged shortest_tick reset_or_not × NoneLower (record_of shortest_tick reset_or_not) 1 1
    × TwoWays (record_of shortest_tick reset_or_not) 1 1
reset_apart = ((parallel_exactly shortest_tick reset_or_not).eleven 1 1).0 starred_posts.reset_refused

-- an accepted text with two edges that give a move by one channel at the start: both lead where the step leads
pub twice_accepted : AcceptedText shortest_tick twice
twice_accepted = left_accepted twice_known post_known twice_post_equal

pub twice_edges : (i : ℕ) → i < 2 → T (edge_gives (record_of shortest_tick twice) (start_of (record_of shortest_tick twice)) 1 i)
twice_edges i h = subst (λ (t : Text). T (edge_gives t (start_of t) 1 i)) (sym twice_text) (here i h)
  where
    twice_text : record_of shortest_tick twice ≡ twice_record
    twice_text = ap reader.record_of twice_read

    here : (i : ℕ) → i < 2 → T (edge_gives twice_record (start_of twice_record) 1 i)
    here zero l = unfold opened_states edge_gives in tt
    here (suc zero) l = unfold opened_states edge_gives in tt
    here (suc (suc i)) l = absurd (omega arith)

pub twice_one_move : (i : ℕ) → i < 2
    → led (moves (record_of shortest_tick twice) (start_of (record_of shortest_tick twice)) 1)
    ≡ some (after (edge (record_of shortest_tick twice) i) (start_of (record_of shortest_tick twice)))
twice_one_move i h =
    let t = record_of shortest_tick twice in
    let w = read_formed shortest_tick twice (ap answer_of twice_read) in
    (parallel_exactly shortest_tick twice).one_move twice_accepted (start_of t) (start_stands t w) 1 i
    (omega (arith, ap (λ (r : Result Text Refusal). (reader.record_of r).edge_count) twice_read)) (twice_edges i h)

-- an accepted text with two edges that give a move by one channel at the start and assign one clock: x is 1 after each
pub woken_twice_accepted : AcceptedText shortest_tick woken_twice
unfolding opened_states
woken_twice_accepted = ap answer_of
    (read_known shortest_tick woken_twice woken_twice_record woken_twice_read refl)

woken_twice_text : text_of shortest_tick woken_twice ≡ woken_twice_record
unfolding opened_states
woken_twice_text = ap text_in
    (read_known shortest_tick woken_twice woken_twice_record woken_twice_read refl)

-- edges 1 and 2 of it
pub record Wakes (t : Text) (i : ℕ) : Type 0 where
  pub there : i < t.edge_count
  pub gives : T (edge_gives t (start_of t) 2 i)
  pub made : (assignment (edge t i) 0).made ≡ true
  pub value : (assignment (edge t i) 0).value ≡ 1

pub woken_twice_wakes : (i : ℕ) → 0 < i → i < 3 → Wakes (text_of shortest_tick woken_twice) i
woken_twice_wakes i l h = subst (λ (t : Text). Wakes t i) (sym woken_twice_text) (here i l h)
  where
    here : (i : ℕ) → 0 < i → i < 3 → Wakes woken_twice_record i
    here zero l h = absurd (omega arith)
    here (suc zero) l h = record { there = omega arith; gives = unfold opened_states edge_gives in tt; made = refl; value = refl }
    here (suc (suc zero)) l h = record { there = omega arith; gives = unfold opened_states edge_gives in tt; made = refl; value = refl }
    here (suc (suc (suc i))) l h = absurd (omega arith)

pub woken_twice_set : (i : ℕ) → 0 < i → i < 3
    → clock_value (after (edge (text_of shortest_tick woken_twice) i) (start_of (text_of shortest_tick woken_twice))) 0 ≡ 1
woken_twice_set i l h =
    let t = text_of shortest_tick woken_twice in
    let w = woken_twice_wakes i l h in
    (assignments_mean shortest_tick woken_twice woken_twice_accepted).set i 0 w.there w.made (start_of t) ∙ w.value

pub woken_twice_alike : (i j : ℕ) → 0 < i → i < 3 → 0 < j → j < 3
    → (assignment (edge (text_of shortest_tick woken_twice) i) 0).value
    ≡ (assignment (edge (text_of shortest_tick woken_twice) j) 0).value
woken_twice_alike i j k l m n =
    let t = text_of shortest_tick woken_twice in
    let a = woken_twice_accepted in
    let v = woken_twice_wakes i k l in
    let w = woken_twice_wakes j m n in
    let s = start_stands t (read_accepted shortest_tick woken_twice a).accepted.formed in
    (assignments_mean shortest_tick woken_twice a).alike (start_of t) s 2 i j 0 v.there w.there v.gives w.gives
    v.made w.made

-- equal channels
pub post_channels : EqualChannels shortest_tick post post
post_channels = channels_equal post_known post_known post_post_equal

-- a consistent left
pub post_consistent : Consistent (meaning shortest_tick post post_accepted)
unfolding post_accepted
post_consistent =
    let f = facts post_known post_known post_post_equal in
    let a = left_accepted post_known post_known post_post_equal in
    let b = right_accepted post_known post_known post_post_equal in
    let e = channels_equal post_known post_known post_post_equal in
    let L = Left shortest_tick post post a b e in
    let s : safe L L.start ≡ true = ap (λ (X : List Bool). at X L.start) f.safe
    ∙ ap (at post_keep) f.start in
    (implementation_iff (left_capping shortest_tick post post a b e)).1 (subst T (sym s) tt)

-- slices that are long enough
pub post_search_long : (keep : List ℕ) (back line : ℕ) (run : List ℕ) → Room 10 10 0 keep back line run
    → LongEnough (search_outcome shortest_tick post post keep back line run).answer
post_search_long keep back line run room = no_refusal _ 0 (starred_posts.post_post keep back line run room).0

pub post_check_long : (keep : List ℕ) → 2 ≤ length keep
    → LongEnough (check_outcome shortest_tick post post keep (ten_by_ten diagonal_raster)).answer
post_check_long keep h = no_refusal _ 9 (starred_posts.diagonal keep h)

pub post_widest_long : (keep table : List ℕ) → 2 ≤ length keep → 29 ≤ length table
    → LongEnough (widest_outcome shortest_tick post post keep table).answer
post_widest_long keep table h k = no_refusal _ _ (starred_posts.post_widest keep table h k).0

-- a table with a right header and a right length
pub post_form : RightForm (states shortest_tick post) (states shortest_tick post) (ten_by_ten diagonal_raster)
post_form = subst T (ap (λ (n : ℕ). fits n n (ten_by_ten diagonal_raster)) (sym starred_posts.post_states))
    (subst T (sym diagonal_fits) tt)
