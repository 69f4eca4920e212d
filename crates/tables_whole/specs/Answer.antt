-- What the check of a table answers, and what making the widest table leaves, as definitions of the slices.
use Rattle.std.specs.Prelude.{◌≡◌, Bool, cond, List, ◌++◌, ℕ, drop, Result, Ok, Err, ⊤}
use Rattle.systems.specs.Tests.{ones}
use Rattle.systems.specs.Definitions.{Signature}
use Rattle.systems.specs.Finite.{FiniteSystem, widest, cell}
use Rattle.tables_header.specs.Header.{table_bytes}
use Rattle.move_tables.specs.declared.Sides.{Sides}
use Rattle.tables_rows.specs.Given.{Systems}
use Rattle.tables_rows.specs.Raster.{set_at}
use Rattle.tables_count.specs.Pairs.{pairs_set}
use Rattle.tables_check.specs.Fault.{table_from}
use Rattle.tables_check.specs.Scan.{fault_at}
use Rattle.tables_check.specs.declared.FailedPair.{FailedPair}
use Rattle.tables_check.specs.declared.FailedPair.TheVariants.{NotAllowedAt, BrokenAt}
use Rattle.tables_whole.specs.TableFile.{table_file}
use Rattle.tables_whole.specs.declared.TableFault.{TableFault}
use Rattle.tables_whole.specs.declared.TableFault.TheVariants.{StartNotSet, NotAllowed, Broken}

-- what the pair that the scan found is refused for
abbrev pub fault_of : FailedPair → TableFault
fault_of (NotAllowedAt s t) = NotAllowed s t
fault_of (BrokenAt c s t) = Broken c s t

-- what the scan found, or the number of pairs set
unfoldable pub answer_of : Result ⊤ FailedPair → ℕ → Result ℕ TableFault
answer_of (Ok passed) count = Ok count
answer_of (Err found) count = Err (fault_of found)

-- the raster k: 18, then 19 and 20 by pair, or accepted
unfoldable pub raster_answer : List ℕ → List ℕ → List ℕ → List ℕ → Sides → List ℕ → Result ℕ TableFault
raster_answer keep holds lm rm sides k =
    let n = sides.left_states in
    let w = sides.right_states in
    let found = table_from (fault_at lm rm keep holds w sides.steps k) w n 0 in
    cond (set_at w k sides.left_start sides.right_start) (answer_of found (pairs_set (set_at w k) w n))
    (Err StartNotSet)

-- the widest table is made: its file stands in front of the old bytes
-- of t, with its count and whether it has the start pair
pub record Made {A : Signature} (L R : FiniteSystem A) (n w : ℕ) (t t' : List ℕ) (count : ℕ) (start : Bool) : Type 0
  where
    pub table_is : t' ≡ table_file n w (widest L R) ++ drop (table_bytes w n) t
    pub count_is : count ≡ ones (widest L R)
    pub start_is : start ≡ cell L R (widest L R) L.start R.start

-- for all systems that the slices stand for
abbrev pub Makes : List ℕ → List ℕ → List ℕ → List ℕ → Sides → List ℕ → List ℕ → ℕ → Bool → Type 0
Makes keep holds lm rm sides t t' count start =
    (A : Signature) (L R : FiniteSystem A) → Systems A L R keep holds lm rm sides
    → Made L R sides.left_states sides.right_states t t' count start
