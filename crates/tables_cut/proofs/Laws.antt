-- Laws of the proofs of this crate: a row cut by a step, and where its set bits lie.
use mathlib.Core.Path.{◌≡◌}
use mathlib.Core.Logic.{⊎_elim}
use mathlib.Core.List.{List}
use Prim.Native.Nat.{ℕ, ◌*◌, ◌/◌, ◌≤◌, ◌<◌}
use native.Mathlib.Omega.{arith}
use Rattle.systems.specs.Tests.{stays}
use Rattle.bitmaps.specs.BitLaws.{less}
use Rattle.bitmaps.specs.Packed.{bytes_for}
use Rattle.move_tables.specs.Moves.{no_move}
use Rattle.move_tables.specs.MoveLaws.{decode_none, decode_some}
use Rattle.tables_rows.specs.Raster.{part}
use Rattle.tables_ranges.specs.Cut.{Cut}
use Rattle.tables_ranges.specs.CutLaws.{cut_same, cut_all}
use Rattle.tables_runs.specs.Runs.{goes, landing, Within, Blank}
use Rattle.tables_runs.specs.RunsLaws.{blank_bit}
use Rattle.tables_cut.specs.Rule.{ok_of, fine}

module _ (lm rm : List ℕ) (w steps : ℕ) (k : List ℕ) (s c : ℕ) where
  -- no move: no rule is broken
  pub step_nowhere : {row : List ℕ} → goes lm steps c s ≡ no_move → Cut 0 w (fine lm rm w steps k s c) row row
  unfolding ok_of stays
  step_nowhere e = cut_all (λ t p q. rw (decode_none (goes lm steps c s) e))

  -- the row that the step leads to says which pairs are kept
  pub step_lands : {row row' : List ℕ} → (goes lm steps c s ≡ no_move → ⊥)
      → Cut 0 w (landing (part (bytes_for w) (goes lm steps c s) k) rm steps c) row row'
      → Cut 0 w (fine lm rm w steps k s c) row row'
  unfolding landing ok_of stays
  step_lands e C = cut_same (λ t p q. rw (decode_some (goes lm steps c s) e)) C

-- whole bytes from `first` to `last`, cut off at w
pub span_within : (w : ℕ) (k : List ℕ) (first last from to : ℕ) → first ≤ last → from ≤ w → from ≤ 8 * first → to ≤ w
    → ((i : ℕ) → i < w → i < 8 * last → i < to) → Blank k 0 first → Blank k last (bytes_for w) → Within w k from to
span_within w k first last from to l a b e most below above = record {
  ordered = ⊎_elim (λ m. absurd (omega (arith, most to (omega arith) (omega arith)))) (λ m. m) (less to from);
  inside = e;
  outside = λ i h. ⊎_elim
      (λ p. blank_bit below i (omega arith) (omega arith)) (λ p. blank_bit above i (past i h p) (omega arith));
}
  where
    past : (i : ℕ) → i < w → to ≤ i → last ≤ i / 8
    past i h p = ⊎_elim (λ m. absurd (omega (arith, most i h m))) (λ m. omega arith) (less i (8 * last))
