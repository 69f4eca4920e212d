-- The widest table, from the bitmaps of the safe left states and of the right states whose invariant is true.
use Rattle.std.specs.Prelude.{◌≡◌, Bool, List, ℕ}
use Rattle.systems.specs.Tests.{ones}
use Rattle.systems.specs.Definitions.{Signature}
use Rattle.systems.specs.Finite.{FiniteSystem, widest, cell}
use Rattle.tables_rows.specs.Raster.{raster_of}
use Rattle.tables_rows.specs.Given.{Systems}
use Rattle.move_tables.specs.declared.Sides.{Sides}

-- what making the widest table gives: its raster over the bytes k, its count, and whether it has the start pair
pub record WidestAnswer (A : Signature) (L R : FiniteSystem A) (n w : ℕ) (k k' : List ℕ) (count : ℕ) (start : Bool)
    : Type 0 where
  pub raster_is_widest : k' ≡ raster_of n w (widest L R) k
  pub count_is : count ≡ ones (widest L R)
  pub start_is : start ≡ cell L R (widest L R) L.start R.start

-- for all systems that the slices stand for
abbrev pub WidestAnswers : List ℕ → List ℕ → List ℕ → List ℕ → Sides → List ℕ → List ℕ → ℕ → Bool → Type 0
WidestAnswers keep holds lm rm sides k k' count start =
    (A : Signature) (L R : FiniteSystem A) → Systems A L R keep holds lm rm sides
    → WidestAnswer A L R sides.left_states sides.right_states k k' count start
