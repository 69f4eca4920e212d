-- The first cut: of all pairs of a safe left state and a right state whose invariant is true, those are kept that break
-- no rule as long as all of them are there.
use Rattle.std.specs.Prelude.{◌≡◌, ◌⊎◌, false, not, List, ℕ, ◌*◌, ◌/◌, ◌≤◌, ◌<◌, T, length, get_or}
use Rattle.bitmaps.specs.Bits.{bit_at}
use Rattle.bitmaps.specs.Packed.{bytes_for}
use Rattle.move_tables.specs.Moves.{no_move}
use Rattle.tables_rows.specs.Raster.{part, set_at}
use Rattle.tables_count.specs.Pairs.{passing, pairs_set}
use Rattle.tables_runs.specs.Runs.{goes, landing}
use Rattle.tables_first.specs.Masks.{passes}

-- the raster k over the old bytes d after the first cut, with the number of pairs set; a row whose stamp is 0 has lost
-- nothing. The rows that moves lead to are all full then, so a step is matched where it leads the right into `holds`.
pub record First (lm rm keep holds : List ℕ) (n w steps : ℕ) (d k stamps : List ℕ) (count : ℕ) : Type 0 where
  pub sized : length k ≡ length d
  pub past : (i : ℕ) → n * bytes_for w ≤ i → get_or k i 0 ≡ get_or d i 0
  pub spare : (s t : ℕ) → s < n → w ≤ t → t / 8 < bytes_for w → set_at w k s t ≡ false
  pub kept : (s t : ℕ) → s < n → t < w → T (set_at w k s t)
      → T (bit_at keep s) × (T (bit_at holds t)
      × ((c : ℕ) → c < steps → (goes lm steps c s ≡ no_move) ⊎ T (landing holds rm steps c t)))
  pub gone : (s t : ℕ) → s < n → t < w → T (bit_at keep s) → T (bit_at holds t)
      → T (set_at w k s t)
      ⊎ ((c : ℕ) × (c < steps) × ((goes lm steps c s ≡ no_move → ⊥) × T (not (landing holds rm steps c t))))
  pub full : (u : ℕ) → u < n → get_or stamps u 0 ≡ 0 → (t : ℕ) → t < w → T (bit_at holds t) → T (set_at w k u t)
  pub stamped : (u : ℕ) → u < n → get_or stamps u 0 ≤ 1
  pub counted : count ≡ pairs_set (set_at w k) w n

-- its row s: a bit is kept if the masks of the steps let it pass
pub record FirstRow (lm keep holds masks : List ℕ) (w steps s : ℕ) (row : List ℕ) : Type 0 where
  pub spare : (t : ℕ) → w ≤ t → t / 8 < bytes_for w → bit_at row t ≡ false
  pub kept : (t : ℕ) → t < w → T (bit_at row t)
      → T (bit_at keep s) × (T (bit_at holds t) × ((c : ℕ) → c < steps → T (passes lm masks w steps s c t)))
  pub gone : (t : ℕ) → t < w → T (bit_at keep s) → T (bit_at holds t)
      → T (bit_at row t) ⊎ ((c : ℕ) × (c < steps) × T (not (passes lm masks w steps s c t)))

-- its first n rows, counted
pub record FirstRows (lm keep holds masks : List ℕ) (n w steps : ℕ) (d k stamps : List ℕ) (count : ℕ) : Type 0 where
  pub sized : length k ≡ length d
  pub past : (i : ℕ) → n * bytes_for w ≤ i → get_or k i 0 ≡ get_or d i 0
  pub rows : (s : ℕ) → s < n → FirstRow lm keep holds masks w steps s (part (bytes_for w) s k)
  pub stamped : (s : ℕ) → s < n → get_or stamps s 0 ≤ 1
  pub full : (s : ℕ) → s < n → get_or stamps s 0 ≡ 0 → passing (set_at w k s) w ≡ passing (bit_at holds) w
  pub counted : count ≡ pairs_set (set_at w k) w n
