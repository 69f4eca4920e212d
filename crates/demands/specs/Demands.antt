-- What SPECIFICATION 17.2 and 17.3 ask of the outcomes of search, check and widest table, for two
-- systems M, the left, and N, the right, of one signature. Definitions only: the theorems are in proofs/Theorems.antt.
use Rattle.std.specs.Prelude.{◌≡◌, ◌↔◌, Bool, false, List, ℕ, ◌*◌, ◌≤◌, ◌<◌, T, length, take, drop, Ok}
use Rattle.systems.specs.Tests.{ones}
use Rattle.systems.specs.Definitions.{Signature, System, Implementation, Satisfies, LargestSafeSet, Makes, Allows, NoDeparture, ShortestDeparture, Refines}
use Rattle.bitmaps.specs.Packed.{bytes_for}
use Rattle.tables_header.specs.Header.{table_bytes}
use Rattle.tables_rows.specs.Raster.{set_at, denoted}
use Rattle.search.specs.Outcome as search
use Rattle.tables.specs.Outcome.{Checked, Widened}
use Rattle.demands.specs.Words.{KeepWritten, RightForm, raster_behind, Denotes}

-- `states` and `right_states` are the numbers of states, `number` and `right_number` give a configuration's
module _ {A : Signature} (M N : System A) (states right_states : ℕ) (number : M.State → ℕ)
    (right_number : N.State → ℕ) where
  -- The search (SPECIFICATION 17.3)

  -- What is asked of the search's outcome o, where keep and run came as `keep` and `run`.
  pub record SearchDemand (keep run : List ℕ) (o : search.Outcome) : Type 1 where
    -- the answer is a number n (SPECIFICATION 12.4)
    pub n : ℕ
    pub answer : o.answer ≡ Ok n
    -- run has its n steps in front, and behind them what it had before (SPECIFICATION 12.4, 12.7)
    pub written : length (take n o.run) ≡ n
    pub long : length o.run ≡ length run
    pub rest : drop n o.run ≡ drop n run
    -- n is 0 exactly when every implementation of the left satisfies the right
    pub satisfied : (n ≡ 0) ↔ ((I : Implementation A) → Satisfies I M → Satisfies I N)
    -- otherwise the n steps written are made by some implementation of the left and not allowed by the right
    pub made : 0 < n
        → (I : Implementation A) × Satisfies I M × Makes I (take n o.run) × (Allows N (take n o.run) → ⊥)
    -- every run that an implementation of the left makes and the right does not allow has at least n steps, and there
    -- is none where n is 0
    pub at_least : (I : Implementation A) → Satisfies I M → (w : List ℕ) → Makes I w → (Allows N w → ⊥)
        → (0 < n) × (n ≤ length w)
    -- n is at most left states × right states
    pub bounded : n ≤ states * right_states
    -- 0 means that there is no departure; else the steps written are a shortest one, and the smallest of these
    -- (SPECIFICATION 10.2, 10.4); whatever set S is the left's safe states
    pub none_left : (S : M.State → Type 0) → LargestSafeSet M S → n ≡ 0 → NoDeparture M N S
    pub shortest : (S : M.State → Type 0) → LargestSafeSet M S → 0 < n → ShortestDeparture M N S (take n o.run)
    -- keep holds the left's safe states (SPECIFICATION 8.4, 12.3)
    pub kept : KeepWritten M states number keep o.keep

  -- The check and the widest table (SPECIFICATION 17.2)

  -- What is asked of the check's outcome o for the table `given`, where keep came as `keep`.
  pub record CheckDemand (keep given : List ℕ) (o : Checked) : Type 1 where
    -- the table is accepted exactly when the relation it denotes over uncapped clocks contains the start pair and
    -- meets the rules (SPECIFICATION 9.4, 11.4, 11.5); S: the left's safe states
    pub accepted : (S : M.State → Type 0) → LargestSafeSet M S
        → ((n : ℕ) × (o.answer ≡ Ok n))
        ↔ (Denotes states right_states number right_number given M.start N.start
        × Refines M N S (Denotes states right_states number right_number given))
    -- the number given with acceptance is that of the pairs set (SPECIFICATION 11.3, 12.5)
    pub count : (n : ℕ) → o.answer ≡ Ok n
        → n ≡ ones (denoted states right_states (raster_behind states right_states given))
    -- keep holds the left's safe states (SPECIFICATION 8.4, 12.3)
    pub kept : KeepWritten M states number keep o.keep

  -- What is asked of the widest table's outcome o, where keep and the table came as `keep` and `given`.
  pub record WidestDemand (keep given : List ℕ) (o : Widened) : Type 1 where
    -- the answer is a count and a truth value (SPECIFICATION 12.6)
    pub count : ℕ
    pub start : Bool
    pub answer : o.answer ≡ Ok (record { count = count; start = start })
    -- the table written has the right header and length, and behind it stands what was there before
    -- (SPECIFICATION 11.1, 12.7)
    pub form : RightForm states right_states (take (table_bytes right_states states) o.table)
    pub long : length o.table ≡ length given
    pub rest : drop (table_bytes right_states states) o.table ≡ drop (table_bytes right_states states) given
    -- it holds exactly the pairs of configurations that some relation meeting the rules holds (SPECIFICATION 11.6);
    -- S: the left's safe states
    pub pairs : (S : M.State → Type 0) → LargestSafeSet M S → (x : M.State) (y : N.State)
        → Denotes states right_states number right_number o.table x y
        ↔ ((Q : M.State → N.State → Type 0) × Refines M N S Q × Q x y)
    -- padding is written as 0 (SPECIFICATION 11.3)
    pub padding : (s i : ℕ) → s < states → right_states ≤ i → i < 8 * bytes_for right_states
        → set_at right_states (raster_behind states right_states o.table) s i ≡ false
    -- the number of pairs set, and whether the start pair is one (SPECIFICATION 12.6): so exactly when every
    -- implementation of the left satisfies the right (SPECIFICATION 9.5)
    pub count_is : count ≡ ones (denoted states right_states (raster_behind states right_states o.table))
    pub start_is : T start ↔ Denotes states right_states number right_number o.table M.start N.start
    pub start_means : T start ↔ ((I : Implementation A) → Satisfies I M → Satisfies I N)
    -- keep holds the left's safe states (SPECIFICATION 8.4, 12.3)
    pub kept : KeepWritten M states number keep o.keep
