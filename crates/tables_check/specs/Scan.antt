-- The check of a given raster, on slices: what the loops compute.
use Rattle.std.specs.Prelude.{◌≡◌, Bool, true, false, not, cond, List, ℕ, ◌+◌, ◌*◌, ◌≤◌, ◌<◌, length, get_or, Result, Ok, Err, ⊤}
use Rattle.systems.specs.Tests.{least}
use Rattle.bitmaps.specs.Bits.{bit_at}
use Rattle.tables_rows.specs.Raster.{set_at}
use Rattle.tables_cut.specs.Rule.{ok_of, fine}
use Rattle.tables_check.specs.declared.Fault.{Fault}
use Rattle.tables_check.specs.declared.Fault.TheVariants.{NotAllowed}
use Rattle.tables_check.specs.Fault.{step_fault}

module _ (lm rm : List ℕ) (w steps : ℕ) (k : List ℕ) where
  -- step c breaks a rule at the pair (s, t)
  unfoldable pub fails_at : ℕ → ℕ → ℕ → Bool
  fails_at s t c = not (ok_of w k (get_or lm (s * steps + c) 0) (get_or rm (t * steps + c) 0))

  -- the least step that fails, `steps` if none does
  unfoldable pub first_bad : ℕ → ℕ → ℕ
  first_bad s t = least (fails_at s t) 0 steps

-- what the pair (s, t) fails at, if it is set: 19 before 20
unfoldable pub fault_at : List ℕ → List ℕ → List ℕ → List ℕ → ℕ → ℕ → List ℕ → ℕ → ℕ → Result ⊤ Fault
fault_at lm rm keep holds w steps k s t =
    let broken = step_fault steps (first_bad lm rm w steps k s t) in
    cond (set_at w k s t)
    (cond (bit_at keep s) (cond (bit_at holds t) broken (Err NotAllowed)) (Err NotAllowed)) (Ok tt)

-- no column from t to t + 7 is set in the row, if r says so
pub record Blank (r : Bool) (row : List ℕ) (t : ℕ) : Type 0 where
  pub unset : r ≡ true → (i : ℕ) → t ≤ i → i < t + 8 → bit_at row i ≡ false

-- row' is what is left of the row when it is cut by the first m steps of s: a bit that is left was set, and none of these
-- steps breaks a rule there
pub record Sifted (lm rm : List ℕ) (w steps : ℕ) (k : List ℕ) (s m : ℕ) (row row' : List ℕ) : Type 0 where
  pub sized : length row' ≡ length row
  pub left : (t : ℕ) → t < w → bit_at row' t ≡ true
      → (bit_at row t ≡ true) × ((c : ℕ) → c < m → fine lm rm w steps k s c t ≡ true)

-- no pair of row s fails, if r says so
pub record RowPasses (r : Bool) (f : ℕ → ℕ → Result ⊤ Fault) (w s : ℕ) : Type 0 where
  pub fine_at : r ≡ true → (t : ℕ) → t < w → f s t ≡ Ok tt
