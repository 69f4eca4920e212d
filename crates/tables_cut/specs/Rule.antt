-- A step of a pair, on slices: whether it breaks no rule in the relation that a raster denotes; and a row to be cut by it.
use Rattle.std.specs.Prelude.{◌≡◌, Bool, List, ℕ, ◌+◌, ◌*◌, ◌<◌, get_or}
use Rattle.systems.specs.Tests.{stays, lands}
use Rattle.bitmaps.specs.Packed.{bytes_for}
use Rattle.move_tables.specs.Moves.{decode, Bounded}
use Rattle.tables_rows.specs.Raster.{set_at}
use Rattle.tables_runs.specs.Runs.{goes, Runs}
use Rattle.tables_shifts.specs.Shifts.{Shifts}

-- the left's successor u and the right's v by one step: u's move is matched
unfoldable pub ok_of : ℕ → List ℕ → ℕ → ℕ → Bool
ok_of w k u v = stays (λ x. lands (set_at w k x) (decode v)) (decode u)

-- step c breaks no rule at the pair (s, t) of the raster k
abbrev pub fine : List ℕ → List ℕ → ℕ → ℕ → List ℕ → ℕ → ℕ → ℕ → Bool
fine lm rm w steps k s c t = ok_of w k (goes lm steps c s) (goes rm steps c t)

-- the shape of the right's moves: their runs, and the classes of the steps that have them
abbrev pub Shape : List ℕ → List ℕ → List ℕ → List ℕ → ℕ → ℕ → Type 0
Shape rm runs classes masks w steps = Runs rm w steps runs × Shifts rm w steps classes masks

-- the moves of both sides, and the shape of the right's
pub record Tables (lm rm runs classes masks : List ℕ) (n w steps : ℕ) : Type 0 where
  pub left : Bounded n steps lm
  pub right : Bounded w steps rm
  pub shape : Shape rm runs classes masks w steps

-- the first bytes of `row` are row s of the raster k
abbrev pub Loaded : ℕ → List ℕ → ℕ → List ℕ → Type 0
Loaded w k s row = (i : ℕ) → i < bytes_for w → get_or row i 0 ≡ get_or k (s * bytes_for w + i) 0
