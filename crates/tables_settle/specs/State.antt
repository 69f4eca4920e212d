-- The removal by rows: the raster, when each row was last looked at and last changed, and how many pairs are left.
use Rattle.std.specs.Prelude.{◌≡◌, ◌⊎◌, ◌≢◌, Bool, false, List, ℕ, ◌+◌, ◌*◌, ◌/◌, ◌≤◌, ◌<◌, T, length, get_or}
use Rattle.systems.specs.Tests.{at, stage}
use Rattle.systems.proofs.Sieve.{Between}
use Rattle.systems.specs.Definitions.{Signature}
use Rattle.systems.specs.Finite.{FiniteSystem, pairs}
use Rattle.systems.proofs.Refinement.{pair_rule}
use Rattle.move_tables.specs.declared.Sides.{Sides}
use Rattle.move_tables.specs.Moves.{no_move}
use Rattle.move_tables.specs.Given.{Given}
use Rattle.bitmaps.specs.Packed.{bytes_for}
use Rattle.tables_rows.specs.Raster.{Raster, set_at, denoted}
use Rattle.tables_count.specs.Pairs.{pairs_set}
use Rattle.tables_runs.specs.Runs.{goes}
use Rattle.tables_cut.specs.Rule.{fine, Tables}
use Rattle.tables_settle.specs.declared.Progress.{Progress}

-- no pair of row s breaks a rule by step c
abbrev pub StepFine : List ℕ → List ℕ → ℕ → ℕ → List ℕ → ℕ → ℕ → Type 0
StepFine lm rm w steps k s c = (t : ℕ) → t < w → T (set_at w k s t) → T (fine lm rm w steps k s c t)

-- where the removal stands: a row that was looked at after the row that a step leads to last changed has no pair that
-- breaks a rule by that step; the number of pairs set; and times stay small, since each change costs a pair
pub record State (lm rm : List ℕ) (n w steps : ℕ) (k seen stamps : List ℕ) (p : Progress) : Type 0 where
  pub clean : (s c : ℕ) → s < n → c < steps → get_or stamps (goes lm steps c s) 0 ≤ get_or seen s 0
      → StepFine lm rm w steps k s c
  pub looked : (s : ℕ) → s < n → get_or seen s 0 ≤ p.time
  pub changed : (u : ℕ) → u < n → get_or stamps u 0 ≤ p.time
  pub counted : p.count ≡ pairs_set (set_at w k) w n
  pub falls : p.time + p.count ≤ 1 + n * w

-- every entry of X is a pair of a safe left state and a right state whose invariant is true
abbrev pub Among : {A : Signature} → FiniteSystem A → FiniteSystem A → List Bool → Type 0
Among L R X = (j : ℕ) → T (at X j) → T (at (pairs L R) j)

-- from k to k' pairs are taken out, each for a reason: what is left in the end of a table X, in whatever order pairs
-- that break a rule are taken out of it, is still there. Padding and the bytes behind stay.
pub record Shrunk (lm rm : List ℕ) (n w steps : ℕ) (k k' : List ℕ) : Type 0 where
  pub sized : length k' ≡ length k
  pub past : (i : ℕ) → n * bytes_for w ≤ i → get_or k' i 0 ≡ get_or k i 0
  pub spare : (s t : ℕ) → s < n → w ≤ t → t / 8 < bytes_for w → set_at w k' s t ≡ set_at w k s t
  pub between : (A : Signature) (L R : FiniteSystem A) → Given A L R lm rm n w steps → (X : List Bool) → Among L R X
      → Between (pair_rule L R) X (denoted n w k) → Between (pair_rule L R) X (denoted n w k')

-- no move of s leads to a row that has changed since s was looked at
abbrev pub Quiet : List ℕ → ℕ → List ℕ → ℕ → ℕ → Type 0
Quiet lm steps stamps s seen = (c : ℕ) → c < steps
    → (goes lm steps c s ≡ no_move) ⊎ (get_or stamps (goes lm steps c s) 0 ≤ seen)

-- rows were looked at: the state is kept, pairs went for a reason, the time did not fall
pub record Moved (lm rm : List ℕ) (n w steps : ℕ) (k k' seen' stamps' : List ℕ) (p p' : Progress) : Type 0 where
  pub state : State lm rm n w steps k' seen' stamps' p'
  pub shrunk : Shrunk lm rm n w steps k k'
  pub rises : p.time ≤ p'.time

-- row s was looked at: with the time unchanged it is quiet, and all else is as it was
pub record Turned (lm rm : List ℕ) (n w steps s : ℕ) (k k' seen seen' stamps stamps' : List ℕ) (p p' : Progress)
    : Type 0 where
  pub moved : Moved lm rm n w steps k k' seen' stamps' p p'
  pub still : p'.time ≡ p.time
      → (stamps' ≡ stamps) × (Quiet lm steps stamps' s (get_or seen' s 0)
      × ((x : ℕ) → x ≢ s → get_or seen' x 0 ≡ get_or seen x 0))

-- every row from s on was looked at: with the time unchanged they are quiet
pub record Swept (lm rm : List ℕ) (n w steps s : ℕ) (k k' seen' stamps' : List ℕ) (p p' : Progress) : Type 0 where
  pub moved : Moved lm rm n w steps k k' seen' stamps' p p'
  pub still : p'.time ≡ p.time → (x : ℕ) → s ≤ x → x < n → Quiet lm steps stamps' x (get_or seen' x 0)

-- what looking at the rows needs of the slices that change
pub record Rooms (n w : ℕ) (k seen stamps row : List ℕ) : Type 0 where
  pub wide : 0 < w
  pub raster : n * bytes_for w ≤ length k
  pub looked : n ≤ length seen
  pub changed : n ≤ length stamps
  pub row_room : bytes_for w ≤ length row

-- what a part of the removal starts from
pub record Ready (lm rm runs classes masks : List ℕ) (sides : Sides) (k seen stamps row : List ℕ) (p : Progress) : Type 0 where
  pub tables : Tables lm rm runs classes masks sides.left_states sides.right_states sides.steps
  pub rooms : Rooms sides.left_states sides.right_states k seen stamps row
  pub state : State lm rm sides.left_states sides.right_states sides.steps k seen stamps p

-- the padding of every row is 0
abbrev pub PaddingClear : ℕ → ℕ → List ℕ → Type 0
PaddingClear n w k = (s t : ℕ) → s < n → w ≤ t → t / 8 < bytes_for w → set_at w k s t ≡ false

-- the removal is done: if the table of k lay between a table X of pairs and what is left of it in the end, then k' has
-- what is left, and `count` pairs of it
pub record Settled (lm rm : List ℕ) (n w steps : ℕ) (k k' : List ℕ) (count : ℕ) : Type 0 where
  pub left : (A : Signature) (L R : FiniteSystem A) → Given A L R lm rm n w steps → (X : List Bool)
      → length X ≡ n * w → Among L R X → Between (pair_rule L R) X (denoted n w k)
      → denoted n w k' ≡ stage (pair_rule L R).keep X (n * w)
  pub raster : PaddingClear n w k → Raster n w (denoted n w k') k k'
  pub counted : count ≡ pairs_set (set_at w k') w n
