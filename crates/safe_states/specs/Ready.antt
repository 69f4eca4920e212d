-- What the slices hold when the safe states are to be found.
use Rattle.std.specs.Prelude.{◌≡◌, List, ℕ, ◌≤◌, length}
use Rattle.reader_record.specs.declared.Text.{Text}
use Rattle.bitmaps.specs.Packed.{bytes_for}
use Rattle.clocks.specs.declared.Ranges.{Ranges}
use Rattle.clocks.specs.States.{ranges, state_count}
use Rattle.clocks.specs.Encoding.{Filled}
use Rattle.clocks.specs.Accepted.{Accepted}

-- the slices are filled for the accepted text t with n states and these ranges of its clocks, and keep is long enough
pub record Ready (t : Text) (r : Ranges) (n : ℕ) (moves holds keep : List ℕ) : Type 0 where
  pub accepted : Accepted t
  pub same : r ≡ ranges t
  pub count : n ≡ state_count t
  pub filled : Filled t moves holds
  pub long : bytes_for (state_count t) ≤ length keep
