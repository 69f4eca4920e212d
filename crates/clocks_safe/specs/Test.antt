-- The test of a safe state, on slices.
use Rattle.std.specs.Prelude.{Bool, false, cond, not, ◌&&◌, List, ℕ, ◌+◌, ◌*◌, ◌≤◌, ◌<◌, length, get_or}
use Rattle.systems.specs.Tests.{all, any, ◌⇒◌, stays, lands}
use Rattle.move_tables.specs.Moves.{decode, Bounded}
use Rattle.bitmaps.specs.Packed.{bytes_for}

-- t is the entry of a step, p the set: the move of an input, if there is one, stays in it
unfoldable pub input_passes : (ℕ → Bool) → ℕ → Bool → Bool
input_passes p t input = input ⇒ stays p (decode t)

-- a step of the system's own is there and stays in it
unfoldable pub own_passes : (ℕ → Bool) → ℕ → Bool → Bool
own_passes p t input = not input && lands p (decode t)

-- a step that decides the test by itself: an input that leaves the set or, with `own`, a step of the system's own that
-- stays in it
unfoldable pub decides : Bool → (ℕ → Bool) → ℕ → Bool → Bool
decides own p t input = cond own (own_passes p t input) (not (input_passes p t input))

-- what the loops need of the slices to look at state s
abbrev pub Visits : ℕ → ℕ → List ℕ → List Bool → List ℕ → ℕ → Type 0
Visits n steps m inputs keep s =
    Bounded n steps m × ((steps ≤ length inputs) × ((s < n) × (bytes_for n ≤ length keep)))

-- the steps of state s, and its test
module _ (m : List ℕ) (inputs : List Bool) (steps : ℕ) (p : ℕ → Bool) (s : ℕ) where
  unfoldable pub input_at : ℕ → Bool
  input_at c = input_passes p (get_or m (s * steps + c) 0) (get_or inputs c false)

  unfoldable pub own_at : ℕ → Bool
  own_at c = own_passes p (get_or m (s * steps + c) 0) (get_or inputs c false)

  unfoldable pub inputs_stay : Bool
  inputs_stay = all steps input_at

  unfoldable pub own_stays : Bool
  own_stays = any steps own_at

  unfoldable pub passes : Bool
  passes = inputs_stay && own_stays

  unfoldable pub decides_at : Bool → ℕ → Bool
  decides_at own c = decides own p (get_or m (s * steps + c) 0) (get_or inputs c false)

  unfoldable pub some_decides : Bool → Bool
  some_decides own = any steps (decides_at own)
