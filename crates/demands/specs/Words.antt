-- The words of the demands, for systems whose configurations have state numbers: `states` is how many there are, and
-- `number` gives each configuration's. Definitions only (SPECIFICATION 8.2, 8.4, 9.4, 11.1 to 11.5, 12.8).
use Rattle.std.specs.Prelude.{◌≡◌, ◌↔◌, ◌⊎◌, false, List, ℕ, ◌*◌, ◌≤◌, ◌<◌, T, length, drop, Result, Err}
use Rattle.refusals.specs.declared.Refusal.{Refusal}
use Rattle.refusals.specs.Refusals.{keep_too_short, table_too_short, queue_too_short, run_too_short}
use Rattle.systems.specs.Definitions.{Signature, System, Implementation, Satisfies, LargestSafeSet, StepRules}
use Rattle.bitmaps.specs.Bits.{bit_at}
use Rattle.bitmaps.specs.Packed.{bytes_for}
use Rattle.tables_header.specs.Header.{header_bytes, fits}
use Rattle.tables_rows.specs.Raster.{set_at}

-- a consistent system: some implementation satisfies it (SPECIFICATION 8.2)
abbrev pub Consistent : {A : Signature} → System A → Type 1
Consistent {A} M = (I : Implementation A) × Satisfies I M

-- the answer is no refusal of this kind, whatever number it names
abbrev pub Without : {A : Type 0} → (ℕ → Refusal) → Result A Refusal → Type 0
Without kind answer = (p : ℕ) → answer ≡ Err (kind p) → ⊥

-- slices that are long enough: no refusal asks for a longer one (SPECIFICATION 12.8)
pub record LongEnough {A : Type 0} (answer : Result A Refusal) : Type 0 where
  pub keep : Without keep_too_short answer
  pub table : Without table_too_short answer
  pub queue : Without queue_too_short answer
  pub run : Without run_too_short answer

-- what keep is to hold (SPECIFICATION 8.4): the bit of a configuration's state says whether it is in S, the safe
-- states; spare bits are 0, and later bytes are as they were
pub record Keeps {X : Type 0} (states : ℕ) (number : X → ℕ) (S : X → Type 0) (before after : List ℕ) : Type 0 where
  pub safe_bits : (x : X) → number x < states → T (bit_at after (number x)) ↔ S x
  pub spare_bits : (i : ℕ) → states ≤ i → i < 8 * bytes_for states → bit_at after i ≡ false
  pub long : length after ≡ length before
  pub rest : drop (bytes_for states) after ≡ drop (bytes_for states) before

-- keep is written: it holds the system's safe states (SPECIFICATION 8.3, 8.4), whatever set S they are
abbrev pub KeepWritten : {A : Signature} (M : System A) (states : ℕ) → (M.State → ℕ) → List ℕ → List ℕ → Type 1
KeepWritten M states number before after =
    (S : M.State → Type 0) → LargestSafeSet M S → Keeps states number S before after

-- a table with a right header and a right length (SPECIFICATION 11.1, 11.2)
abbrev pub RightForm : ℕ → ℕ → List ℕ → Type 0
RightForm states right_states table = T (fits right_states states table)

-- its raster, behind the header
abbrev pub raster_behind : ℕ → ℕ → List ℕ → List ℕ
raster_behind states right_states table = drop (header_bytes right_states states) table

-- the relation that a table denotes over uncapped clocks: all pairs of configurations whose states' numbers are set
-- (SPECIFICATION 11.4)
abbrev pub Denotes : {X Y : Type 0} (states right_states : ℕ) → (X → ℕ) → (Y → ℕ) → List ℕ → X → Y → Type 0
Denotes states right_states number right_number table x y =
    (number x < states) × (right_number y < right_states)
    × T (set_at right_states (raster_behind states right_states table) (number x) (right_number y))

-- Codes 19 and 20 (SPECIFICATION 11.5), for a relation Q between the configurations of two systems; S: the left's safe
-- states

-- the pair of numbers (i, j) is lower than (s, t): its row is, or its column in the same row (SPECIFICATION 11.5)
abbrev pub Lower : ℕ → ℕ → ℕ → ℕ → Type 0
Lower i j s t = (i < s) ⊎ ((i ≡ s) × (j < t))

module _ {A : Signature} (M N : System A) (S : M.State → Type 0) (Q : M.State → N.State → Type 0) where
  -- what is asked of the states of a pair: x is safe, and the invariant of y holds (SPECIFICATION 9.4)
  abbrev pub AllowedPair : M.State → N.State → Type 0
  AllowedPair x y = S x × T (N.holds y)

  -- a pair of which this is so, and no step breaks a rule there (SPECIFICATION 9.4)
  pub record Passes (x : M.State) (y : N.State) : Type 0 where
    pub allowed : AllowedPair x y
    pub rules : (c : ℕ) → StepRules M N S Q x y c

  module _ (number : M.State → ℕ) (right_number : N.State → ℕ) where
    -- each pair of Q that is lower than (x, y) passes
    abbrev pub LowerPass : M.State → N.State → Type 0
    LowerPass x y = (u : M.State) (v : N.State) → Q u v
        → Lower (number u) (right_number v) (number x) (right_number y) → Passes u v

    -- 19: the lowest pair of Q that fails is (x, y), for its states (SPECIFICATION 11.5)
    pub record PairFails (x : M.State) (y : N.State) : Type 0 where
      pub pair : Q x y
      pub not_allowed : AllowedPair x y → ⊥
      pub lowest : LowerPass x y

    -- 20: the lowest pair of Q that fails is (x, y), which breaks a rule, and c is the least step that does
    -- (SPECIFICATION 11.5)
    pub record StepFails (x : M.State) (y : N.State) (c : ℕ) : Type 0 where
      pub pair : Q x y
      pub allowed : AllowedPair x y
      pub broken : StepRules M N S Q x y c → ⊥
      pub least : (d : ℕ) → d < c → StepRules M N S Q x y d
      pub lowest : LowerPass x y
