-- What SPECIFICATION 17.1 asks of the outcomes of search, check and widest table, for two systems M, the
-- left, and N, the right, of one signature: the answers in the order of judging, each with what it means
-- (SPECIFICATION 13.1, 13.3, 13.5). Definitions only.
use Rattle.std.specs.Prelude.{◌≡◌, ◌⊎◌, Bool, List, ℕ, ◌*◌, ◌≤◌, ◌<◌, length, Ok, Err}
use Rattle.refusals.specs.Refusals.{keep_too_short, table_too_short, queue_too_short, other_table, start_not_safe, start_pair_not_set, pair_not_allowed, rule_broken, run_too_short}
use Rattle.systems.specs.Tests.{ones}
use Rattle.systems.specs.Definitions.{Signature, System, LargestSafeSet, ShortestDeparture}
use Rattle.bitmaps.specs.Packed.{bytes_for}
use Rattle.tables_header.specs.Header.{table_bytes}
use Rattle.tables_rows.specs.Raster.{denoted}
use Rattle.tables_check.specs.Fault.{step}
use Rattle.search.specs.Outcome as search
use Rattle.tables.specs.Outcome.{Checked, Widened}
use Rattle.demands.specs.Words.{Consistent, KeepWritten, RightForm, raster_behind, Denotes, Passes, PairFails, StepFails}

-- `states` and `right_states` are the numbers of states, `number` and `right_number` give a configuration's
module _ {A : Signature} (M N : System A) (states right_states : ℕ) (number : M.State → ℕ)
    (right_number : N.State → ℕ) where
  -- the answers of the search (SPECIFICATION 12.4)
  pub data SearchAnswers (keep : List ℕ) (back line : ℕ) (run : List ℕ) (o : search.Outcome) : Type 1 where
    -- 13: keep has less than a bit for each left state; everything lent is as it came
    thirteen : length keep < bytes_for states
        → o ≡ record { answer = Err (keep_too_short (bytes_for states)); keep = keep; run = run }
        → SearchAnswers keep back line run o
    -- 15: back or line has fewer entries than there are pairs; everything lent is as it came
    fifteen : bytes_for states ≤ length keep
        → (back < states * right_states) ⊎ (line < states * right_states)
        → o ≡ record { answer = Err (queue_too_short (states * right_states)); keep = keep; run = run }
        → SearchAnswers keep back line run o
    -- 17: no implementation satisfies the left, so its start is not safe (SPECIFICATION 8.3); the run is as it came
    seventeen : bytes_for states ≤ length keep → states * right_states ≤ back → states * right_states ≤ line
        → (Consistent M → ⊥)
        → o.answer ≡ Err (start_not_safe (number M.start))
        → o.run ≡ run
        → KeepWritten M states number keep o.keep
        → SearchAnswers keep back line run o
    -- 21: the run has no room for w, a shortest departure (SPECIFICATION 10.4), and is as it came
    twenty_one : bytes_for states ≤ length keep → states * right_states ≤ back → states * right_states ≤ line
        → Consistent M → (w : List ℕ) → length run < length w
        → ((S : M.State → Type 0) → LargestSafeSet M S → ShortestDeparture M N S w)
        → o.answer ≡ Err (run_too_short (length w)) → o.run ≡ run
        → KeepWritten M states number keep o.keep
        → SearchAnswers keep back line run o
    -- n: what it means is SPECIFICATION 17.3 (Demands.antt)
    found : bytes_for states ≤ length keep → states * right_states ≤ back → states * right_states ≤ line
        → Consistent M → (n : ℕ) → o.answer ≡ Ok n → n ≤ length run
        → SearchAnswers keep back line run o

  -- the answers of the check of the table `given` (SPECIFICATION 12.5)
  module _ (keep given : List ℕ) where
    -- the relation that the table denotes (SPECIFICATION 11.4)
    abbrev pub Given : M.State → N.State → Type 0
    Given = Denotes states right_states number right_number given

    pub data CheckAnswers (o : Checked) : Type 1 where
      -- 13: keep has less than a bit for each left state, and is as it came
      thirteen : length keep < bytes_for states
          → o ≡ record { answer = Err (keep_too_short (bytes_for states)); keep = keep }
          → CheckAnswers o
      -- 16: the table does not have the right form (SPECIFICATION 11.1, 11.2); keep is as it came
      sixteen : bytes_for states ≤ length keep → (RightForm states right_states given → ⊥)
          → o ≡ record { answer = Err other_table; keep = keep }
          → CheckAnswers o
      -- 17: no implementation satisfies the left, so its start is not safe (SPECIFICATION 8.3)
      seventeen : bytes_for states ≤ length keep → RightForm states right_states given → (Consistent M → ⊥)
          → o.answer ≡ Err (start_not_safe (number M.start))
          → KeepWritten M states number keep o.keep
          → CheckAnswers o
      -- 18: the table does not have the pair of starts
      eighteen : bytes_for states ≤ length keep → RightForm states right_states given → Consistent M
          → (Given M.start N.start → ⊥)
          → o.answer ≡ Err (start_pair_not_set (number M.start) (right_number N.start))
          → KeepWritten M states number keep o.keep
          → CheckAnswers o
      -- 19: (x, y) is the lowest pair that fails, for its states (SPECIFICATION 11.5); S: the left's safe states
      nineteen : bytes_for states ≤ length keep → RightForm states right_states given → Consistent M
          → Given M.start N.start
          → (x : M.State) (y : N.State)
          → ((S : M.State → Type 0) → LargestSafeSet M S → PairFails M N S Given number right_number x y)
          → o.answer ≡ Err (pair_not_allowed (number x) (right_number y))
          → KeepWritten M states number keep o.keep
          → CheckAnswers o
      -- 20: (x, y) is the lowest pair that fails, for a rule, and c the least step (SPECIFICATION 11.5)
      twenty : bytes_for states ≤ length keep → RightForm states right_states given → Consistent M
          → Given M.start N.start
          → (x : M.State) (y : N.State) (c : ℕ)
          → ((S : M.State → Type 0) → LargestSafeSet M S → StepFails M N S Given number right_number x y c)
          → o.answer ≡ Err (rule_broken right_states (step c) (number x) (right_number y))
          → KeepWritten M states number keep o.keep
          → CheckAnswers o
      -- acceptance, with the number of pairs set: every pair passes (SPECIFICATION 11.5, 12.5)
      accepted : bytes_for states ≤ length keep → RightForm states right_states given → Consistent M
          → Given M.start N.start
          → ((S : M.State → Type 0) → LargestSafeSet M S → (x : M.State) (y : N.State) → Given x y
          → Passes M N S Given x y)
          → o.answer
          ≡ Ok (ones (denoted states right_states (raster_behind states right_states given)))
          → KeepWritten M states number keep o.keep
          → CheckAnswers o

  -- the answers of making the widest table (SPECIFICATION 12.6), where the table came as `given`
  pub data WidestAnswers (keep given : List ℕ) (o : Widened) : Type 1 where
    -- 13: keep has less than a bit for each left state; everything lent is as it came
    thirteen : length keep < bytes_for states
        → o ≡ record { answer = Err (keep_too_short (bytes_for states)); keep = keep; table = given }
        → WidestAnswers keep given o
    -- 14: the slice for the table is shorter than the table; everything lent is as it came
    fourteen : bytes_for states ≤ length keep → length given < table_bytes right_states states
        → o
        ≡ record {
          answer = Err (table_too_short (table_bytes right_states states));
          keep = keep;
          table = given;
        }
        → WidestAnswers keep given o
    -- 17: no implementation satisfies the left, so its start is not safe (SPECIFICATION 8.3); the table is as it came
    seventeen : bytes_for states ≤ length keep → table_bytes right_states states ≤ length given
        → (Consistent M → ⊥)
        → o.answer ≡ Err (start_not_safe (number M.start)) → o.table ≡ given
        → KeepWritten M states number keep o.keep
        → WidestAnswers keep given o
    -- the count and whether the start pair is one: what they mean is SPECIFICATION 17.2 (Demands.antt)
    written : bytes_for states ≤ length keep → table_bytes right_states states ≤ length given
        → Consistent M
        → (n : ℕ) (start : Bool) → o.answer ≡ Ok (record { count = n; start = start })
        → WidestAnswers keep given o
