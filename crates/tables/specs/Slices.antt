-- What the check and the widest table promise of the slices they are given.
use Rattle.std.specs.Prelude.{◌≡◌, Bool, List, ℕ}
use Rattle.systems.specs.Definitions.{Signature}
use Rattle.systems.specs.Finite.{FiniteSystem}
use Rattle.move_tables.specs.declared.Sides.{Sides}
use Rattle.move_tables.specs.Held.{Held}
use Rattle.tables.specs.Outcome.{Checked, check_systems, Widened, widest_systems}

-- for all systems that they hold the outcome is that of the systems (SPECIFICATION 12.5, 12.6)
abbrev pub Checks : Sides → List Bool → List ℕ → List ℕ → List ℕ → List ℕ → List ℕ → List ℕ → Checked → Type 0
Checks sides inputs lm rm lh rh keep table o =
    (A : Signature) (L R : FiniteSystem A) → Held L R sides inputs lm rm lh rh → o ≡ check_systems L R keep table

abbrev pub Widens : Sides → List Bool → List ℕ → List ℕ → List ℕ → List ℕ → List ℕ → List ℕ → Widened → Type 0
Widens sides inputs lm rm lh rh keep table o =
    (A : Signature) (L R : FiniteSystem A) → Held L R sides inputs lm rm lh rh → o ≡ widest_systems L R keep table
