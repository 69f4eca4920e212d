-- A move table whose rows have the right's steps, with the left's steps in their place.
use Rattle.std.specs.Prelude.{◌≡◌, ℕ, ◌+◌, ◌*◌, ◌/◌, ◌%◌, ◌≤◌, ◌<◌, List, length, get_or}
use Rattle.bitmaps.specs.Bits.{written}
use Rattle.limits.specs.Limits.{state_limit, step_limit, move_limit}

-- entry p of the table with `left` steps a row, from a table with `right` steps a row; map has the right's number of
-- each step
unfoldable pub renumbered : List ℕ → List ℕ → ℕ → ℕ → ℕ → ℕ
renumbered table map right left p = get_or table (p / left * right + get_or map (p % left) 0) 0

-- entry c of the row that starts at `from`
abbrev pub row_entry : List ℕ → ℕ → ℕ → ℕ
row_entry table from c = get_or table (from + c) 0

-- the map gives steps that are there
abbrev pub StepsThere : List ℕ → ℕ → Type 0
StepsThere map width = (c : ℕ) → c < width → get_or map c 0 < width

-- a table of n rows, long enough, with steps that are there
pub record Renumbering (entries : ℕ) (map : List ℕ) (n width : ℕ) : Type 0 where
  pub few : width ≤ step_limit
  pub rows : n ≤ state_limit
  pub long : n * width ≤ entries
  pub steps : StepsThere map width

-- a row of the table
pub record RowThere (entries from width : ℕ) : Type 0 where
  pub few : width ≤ step_limit
  pub inside : from + width ≤ entries
  pub low : from + width ≤ move_limit

-- f gives the entries of the row that starts at `from`, which stood in the table by the other text's steps
abbrev pub RowOf : List ℕ → List ℕ → ℕ → ℕ → (ℕ → ℕ) → Type 0
RowOf table map from width f = (c : ℕ) → c < width → f (from + c) ≡ row_entry table from (get_or map c 0)

-- where the entries before the row are written in d, those of the row are written too in k
abbrev pub RowWritten : List ℕ → List ℕ → ℕ → ℕ → List ℕ → List ℕ → Type 0
RowWritten table map from width d k = (f : ℕ → ℕ) (e : List ℕ) → RowOf table map from width f
    → from + width ≤ length e → d ≡ written f from e → k ≡ written f (from + width) e
