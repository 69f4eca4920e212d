-- SPECIFICATION 17.1 to 17.3 for any two systems M, the left, and N, the right, of one signature that
-- are capped to finite ones L and R: theorems about the outcomes of search, check and widest table (search_systems,
-- check_systems, widest_systems), to be read first. The words are defined in specs/Words.antt, what is asked in
-- specs/Demands.antt and specs/Answers.antt; the other files of this crate are proofs. An operation over two texts is
-- an instance: crate guarantees.
use Rattle.std.specs.Prelude.{List, ℕ}
use Rattle.systems.specs.Definitions.{Signature, System, LargestSafeSet}
use Rattle.systems.specs.Finite.{FiniteSystem, Capping, SafeAt}
use Rattle.systems.proofs.Theorems.{safe_states_largest}
use Rattle.search.specs.Outcome.{search_systems}
use Rattle.tables.specs.Outcome.{check_systems, widest_systems}
use Rattle.demands.specs.Words.{Consistent, LongEnough, RightForm}
use Rattle.demands.specs.Demands.{SearchDemand, CheckDemand, WidestDemand}
use Rattle.demands.specs.Answers.{SearchAnswers, CheckAnswers, WidestAnswers}
use Rattle.demands.proofs.Answered as answered
use Rattle.demands.proofs.Searched as searched
use Rattle.demands.proofs.Checked as checked
use Rattle.demands.proofs.Widened as widened

-- A system that is capped has safe states, the largest safe set of its configurations: what the demands say of every
-- such set S is said of one that there is.
pub safe_states_exist : {A : Signature} {M : System A} {L : FiniteSystem A} → Capping M L
    → (S : M.State → Type 0) × LargestSafeSet M S
safe_states_exist C = (SafeAt C, safe_states_largest C)

module _ {A : Signature} {M N : System A} {L R : FiniteSystem A} (C : Capping M L) (D : Capping N R) where
  -- SPECIFICATION 17.1: an operation gives the one of the codes 13 to 21 whose case applies, in the order
  -- of SPECIFICATION 13.3, or succeeds.
  pub demand_1_search : (keep : List ℕ) (back line : ℕ) (run : List ℕ)
      → SearchAnswers M N L.size R.size C.cap D.cap keep back line run
      (search_systems L R keep back line run)
  demand_1_search = answered.search_answered C D

  pub demand_1_check : (keep table : List ℕ)
      → CheckAnswers M N L.size R.size C.cap D.cap keep table (check_systems L R keep table)
  demand_1_check = answered.check_answered C D

  pub demand_1_widest : (keep table : List ℕ)
      → WidestAnswers M N L.size R.size C.cap D.cap keep table (widest_systems L R keep table)
  demand_1_widest = answered.widest_answered C D

  -- With a consistent left and slices that are long enough:
  module _ (consistent : Consistent M) where
    -- SPECIFICATION 17.2, the check of a table with a right header and a right length.
    pub demand_2_check : (keep table : List ℕ) → RightForm L.size R.size table
        → LongEnough (check_systems L R keep table).answer
        → CheckDemand M N L.size R.size C.cap D.cap keep table (check_systems L R keep table)
    demand_2_check keep table form long =
        checked.answers_demand M N L.size R.size C.cap D.cap consistent keep table form
        (check_systems L R keep table) long (answered.check_answered C D keep table)

    -- SPECIFICATION 17.2, the widest table.
    pub demand_2_widest : (keep table : List ℕ)
        → LongEnough (widest_systems L R keep table).answer
        → WidestDemand M N L.size R.size C.cap D.cap keep table (widest_systems L R keep table)
    demand_2_widest = widened.demand_2_widest C D consistent

    -- SPECIFICATION 17.3, the search.
    pub demand_3 : (keep : List ℕ) (back line : ℕ) (run : List ℕ)
        → LongEnough (search_systems L R keep back line run).answer
        → SearchDemand M N L.size R.size C.cap D.cap keep run (search_systems L R keep back line run)
    demand_3 = searched.demand_3 C D consistent
