-- THE GUARANTEES, to be read first. SPECIFICATION 17.1 to 17.3 as theorems about the operations' own
-- outcomes (read_outcome, safe_outcome, search_outcome, check_outcome, widest_outcome, implementation_outcome,
-- join_outcome), which the contracts of the operations equate with what the code answers and leaves in the lent slices.
-- The words are defined in specs/Texts.antt and, for systems, in crate systems, Definitions.antt, in crate reachable,
-- Meaning.antt, and in crate demands, Words.antt; what each asks, point by point, is a record or a type of cases
-- in crate demands, Demands.antt and Answers.antt, and in specs/ here, Demands.antt, Implementations.antt, Lengths.antt,
-- Parallel.antt, Assignments.antt and Joining.antt. The other files of proofs/ are laws: the operations on two texts are
-- instances of those on two systems.
use Rattle.std.specs.Prelude.{◌≡◌, ◌↔◌, List, ℕ, Err}
use Rattle.std.proofs.Common.{subst}
use Rattle.std.proofs.Math.Option.{none, some}
use Rattle.refusals.specs.declared.Refusal.{Refusal}
use Rattle.refusals.specs.Answers.{answer_of}
use Rattle.systems.specs.Definitions.{LargestSafeSet}
use Rattle.clocks_read.specs.Reading.{read_outcome}
use Rattle.clocks_read.specs.Laws.{read_accepted}
use Rattle.two_texts.specs.Two.{text_of, two_judged}
use Rattle.two_texts.proofs.Laws.{judged_none, channels_equal, judged_by_some}
use Rattle.safe_states.specs.Outcome.{safe_outcome}
use Rattle.implementation_check.specs.Outcome.{implementation_outcome}
use Rattle.search.specs.Outcome as search
use Rattle.two_operations.specs.Outcome.{search_outcome, check_outcome, widest_outcome}
use Rattle.joining.specs.Outcome as joining
use Rattle.joining.specs.Outcome.{join_outcome}
use Rattle.tables.specs.Outcome.{Checked, Widened}
use Rattle.demands.specs.Words.{Consistent, LongEnough, RightForm}
use Rattle.demands.specs.Demands.{SearchDemand, CheckDemand, WidestDemand}
use Rattle.demands.proofs.Theorems as demands
use Rattle.demands.specs.Answers.{SearchAnswers, CheckAnswers, WidestAnswers}
use Rattle.guarantees.specs.Texts.{AcceptedText, states, meaning, number, right_meaning, right_number, EqualChannels}
use Rattle.guarantees.specs.Demands.{SafeDemand}
use Rattle.guarantees.specs.Comparisons.{ComparisonsDemand}
use Rattle.guarantees.proofs.Compared.{comparisons_promised}
use Rattle.guarantees.specs.Implementations.{ImplementationDemand}
use Rattle.guarantees.proofs.Implemented.{implementation_promised}
use Rattle.guarantees.specs.Lengths.{TicksDemand, LengthDemand}
use Rattle.guarantees.proofs.Allowed.{ticks_promised, length_promised}
use Rattle.guarantees.specs.Parallel.{ParallelDemand}
use Rattle.guarantees.proofs.OneMove.{parallel_promised}
use Rattle.guarantees.specs.Assignments.{AssignmentsDemand}
use Rattle.guarantees.proofs.Assigned.{assignments_promised}
use Rattle.guarantees.specs.Joining.{JoinDemand}
use Rattle.guarantees.proofs.Joins.{join_promised}
use Rattle.guarantees.proofs.Counted as counted
use Rattle.guarantees.proofs.Setting.{nothing_found, one_capping, left_capping, right_capping, by_texts, form_sizes, search_is, check_is, widest_is}

-- How many ticks a constant comes to: the nearest whole number, an exact half upward, and itself at tick length 1, so
-- that what holds at every tick length holds of texts in ticks (SPECIFICATION 4.7, 17.9).
pub ticks_nearest : TicksDemand
ticks_nearest = ticks_promised

-- Code 24 exactly at a tick length that is not allowed, and then everything lent is as it came (SPECIFICATION 13.3,
-- 17.9).
pub lengths_judged : (period : ℕ) → LengthDemand period
lengths_judged = length_promised

-- Everything else at any one tick length, `period`, one for all texts (SPECIFICATION 4.7, 17.9).
module _ (period : ℕ) where
  -- Each accepted text has safe states, the largest safe set of its configurations: what is asked of every such
  -- set S is said of one that there is.
  pub safe_states_exist : (s : List ℕ) (a : AcceptedText period s) → (S : (meaning period s a).State → Type 0)
      × LargestSafeSet (meaning period s a) S
  safe_states_exist s a = demands.safe_states_exist (one_capping period s a (read_accepted period s a).accepted)

  -- The safe-state operation on an accepted text with a keep that is long enough.
  pub safe_states_given : (s : List ℕ) (a : AcceptedText period s) (keep : List ℕ)
      → LongEnough (safe_outcome period s keep).answer
      → SafeDemand period s a keep (safe_outcome period s keep)
  safe_states_given = counted.safe_demand period

  -- The comparisons of an accepted text, as reading hands them out: what each sign says, that M + 1 stands for every
  -- larger value, and that the start's invariant holds (SPECIFICATION 17.7).
  pub comparisons_mean : (s : List ℕ) → AcceptedText period s → ComparisonsDemand (text_of period s)
  comparisons_mean s a = comparisons_promised (text_of period s) (read_accepted period s a).accepted.formed

  -- The implementation check, for every text: when it succeeds, what 22 and 23 say, and that a text for which it
  -- succeeds is an implementation that satisfies itself (SPECIFICATION 17.8).
  pub implementation_exactly : (s : List ℕ) → ImplementationDemand period s (implementation_outcome period s)
  implementation_exactly = implementation_promised period

  -- Codes 10 and 11, for every text: when they come, and that parallel edges, which give moves by one channel and lead
  -- to one state, make one move (SPECIFICATION 17.12).
  pub parallel_exactly : (s : List ℕ) → ParallelDemand period s (answer_of (read_outcome period s))
  parallel_exactly = parallel_promised period

  -- The assignments of an accepted text, as reading hands them out: what they are, that they count towards M, that a
  -- clock has the value assigned in the configuration and in the state that an edge leads to, and that the target's
  -- invariant is asked there (SPECIFICATION 17.13).
  pub assignments_mean : (s : List ℕ) → AcceptedText period s → AssignmentsDemand (text_of period s)
  assignments_mean s a = assignments_promised (text_of period s) (read_accepted period s a).accepted

  -- Joining, for every two texts and every slice: when 25 and 26 come, and that the joined text is accepted with tick
  -- length 1 and satisfied by exactly the implementations that satisfy both texts (SPECIFICATION 17.10).
  pub joining_exactly : (left right out : List ℕ)
      → JoinDemand period left right out (join_outcome period left right out)
  joining_exactly = join_promised period

  -- SPECIFICATION 17.1: an operation on two texts gives one of the codes 24 and 1 to 12 exactly unless both
  -- texts are accepted and have equal channels; then everything lent is as it came.
  pub texts_judged : (left right : List ℕ) → (none ≡ two_judged period left right)
      ↔ (AcceptedText period left × AcceptedText period right × EqualChannels period left right)
  texts_judged left right = (
    λ e. let j = judged_none period left right e in (j.left_read, j.right_read, channels_equal period left right j),
    λ (a, b, e). nothing_found period left right a b e,
  )

  pub search_judged : (left right keep : List ℕ) (back line : ℕ) (run : List ℕ) (r : Refusal)
      → two_judged period left right ≡ some r
      → search_outcome period left right keep back line run
      ≡ record { answer = Err r; keep = keep; run = run }
  unfolding search_outcome
  search_judged left right keep back line run r e = judged_by_some (two_judged period left right) _ _ r e

  pub check_judged : (left right keep table : List ℕ) (r : Refusal) → two_judged period left right ≡ some r
      → check_outcome period left right keep table ≡ record { answer = Err r; keep = keep }
  unfolding check_outcome
  check_judged left right keep table r e = judged_by_some (two_judged period left right) _ _ r e

  pub widest_judged : (left right keep table : List ℕ) (r : Refusal) → two_judged period left right ≡ some r
      → widest_outcome period left right keep table ≡ record { answer = Err r; keep = keep; table = table }
  unfolding widest_outcome
  widest_judged left right keep table r e = judged_by_some (two_judged period left right) _ _ r e

  pub join_judged : (left right out : List ℕ) (r : Refusal) → two_judged period left right ≡ some r
      → join_outcome period left right out ≡ record { answer = Err r; out = out }
  unfolding join_outcome joining.refused
  join_judged left right out r e = judged_by_some (two_judged period left right) _ _ r e

  module _ (left right : List ℕ) (a : AcceptedText period left) (b : AcceptedText period right)
      (e : EqualChannels period left right) where
    -- Else it gives the one of the later codes whose case applies, in the order of SPECIFICATION 13.3, or succeeds.
    pub demand_1_search : (keep : List ℕ) (back line : ℕ) (run : List ℕ)
        → SearchAnswers (meaning period left a) (right_meaning period left right b) (states period left)
        (states period right) (number period left a)
        (right_number period left right b) keep back line run (search_outcome period left right keep back line run)
    demand_1_search keep back line run =
        by_texts period left right a b e
        (λ n w f g o. SearchAnswers (meaning period left a)
        (right_meaning period left right b) n w f g keep back line run o)
        (search_is period left right a b e keep back line run)
        (demands.demand_1_search (left_capping period left right a b e)
        (right_capping period left right a b e) keep back line run)

    pub demand_1_check : (keep table : List ℕ)
        → CheckAnswers (meaning period left a) (right_meaning period left right b) (states period left)
        (states period right) (number period left a)
        (right_number period left right b) keep table (check_outcome period left right keep table)
    demand_1_check keep table =
        by_texts period left right a b e
        (λ n w f g o. CheckAnswers (meaning period left a) (right_meaning period left right b) n w f g keep table o)
        (check_is period left right a b e keep table)
        (demands.demand_1_check (left_capping period left right a b e)
        (right_capping period left right a b e) keep table)

    pub demand_1_widest : (keep table : List ℕ)
        → WidestAnswers (meaning period left a) (right_meaning period left right b) (states period left)
        (states period right) (number period left a)
        (right_number period left right b) keep table (widest_outcome period left right keep table)
    demand_1_widest keep table =
        by_texts period left right a b e
        (λ n w f g o. WidestAnswers (meaning period left a) (right_meaning period left right b) n w f g keep table o)
        (widest_is period left right a b e keep table)
        (demands.demand_1_widest (left_capping period left right a b e)
        (right_capping period left right a b e) keep table)

    -- With a consistent left and slices that are long enough:
    module _ (consistent : Consistent (meaning period left a)) where
      -- SPECIFICATION 17.2, the check of a table with a right header and a right length.
      pub demand_2_check : (keep table : List ℕ) → RightForm (states period left) (states period right) table
          → LongEnough (check_outcome period left right keep table).answer
          → CheckDemand (meaning period left a) (right_meaning period left right b) (states period left)
          (states period right) (number period left a)
          (right_number period left right b) keep table (check_outcome period left right keep table)
      demand_2_check keep table form long =
          by_texts period left right a b e
          (λ n w f g o. CheckDemand (meaning period left a) (right_meaning period left right b) n w f g keep table o)
          (check_is period left right a b e keep table)
          (demands.demand_2_check (left_capping period left right a b e)
          (right_capping period left right a b e) consistent keep table
          (form_sizes period left right a b e (λ n w. RightForm n w table) form)
          (subst (λ (o : Checked). LongEnough o.answer)
          (check_is period left right a b e keep table) long))

      -- SPECIFICATION 17.2, the widest table.
      pub demand_2_widest : (keep table : List ℕ)
          → LongEnough (widest_outcome period left right keep table).answer
          → WidestDemand (meaning period left a) (right_meaning period left right b) (states period left)
          (states period right) (number period left a)
          (right_number period left right b) keep table (widest_outcome period left right keep table)
      demand_2_widest keep table long =
          by_texts period left right a b e
          (λ n w f g o. WidestDemand (meaning period left a) (right_meaning period left right b) n w f g keep table o)
          (widest_is period left right a b e keep table)
          (demands.demand_2_widest (left_capping period left right a b e)
          (right_capping period left right a b e) consistent keep table
          (subst (λ (o : Widened). LongEnough o.answer)
          (widest_is period left right a b e keep table)
          long))

      -- SPECIFICATION 17.3, the search.
      pub demand_3 : (keep : List ℕ) (back line : ℕ) (run : List ℕ)
          → LongEnough (search_outcome period left right keep back line run).answer
          → SearchDemand (meaning period left a) (right_meaning period left right b) (states period left)
          (states period right) (number period left a)
          (right_number period left right b) keep run (search_outcome period left right keep back line run)
      demand_3 keep back line run long =
          by_texts period left right a b e
          (λ n w f g o. SearchDemand (meaning period left a) (right_meaning period left right b) n w f g keep run o)
          (search_is period left right a b e keep back line run)
          (demands.demand_3 (left_capping period left right a b e)
          (right_capping period left right a b e) consistent keep back line run
          (subst (λ (o : search.Outcome). LongEnough o.answer)
          (search_is period left right a b e keep back line run) long))
