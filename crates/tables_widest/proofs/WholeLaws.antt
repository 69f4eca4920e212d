-- Laws of the whole: from the first cut to the widest table.
use mathlib.Core.Path.{◌≡◌, sym, subst, ap, ◌∙◌}
use mathlib.Core.Bool.{Bool}
use mathlib.Core.List.{List}
use Prim.Native.Nat.{ℕ, ◌+◌, ◌*◌, ◌≤◌, ◌<◌}
use native.Mathlib.Omega.{arith}
use lib.ListN.{length}
use Rattle.systems.specs.Tests.{at, stage}
use Rattle.systems.specs.Definitions.{Signature}
use Rattle.systems.specs.Finite.{FiniteSystem, pairs, widest}
use Rattle.systems.proofs.Refinement.{pair_rule}
use Rattle.bitmaps.specs.Packed.{bytes_for}
use Rattle.move_tables.specs.declared.Sides.{Sides}
use Rattle.tables_rows.specs.Raster.{Raster, set_at, denoted}
use Rattle.tables_rows.specs.RasterLaws.{raster_is, raster_bit}
use Rattle.tables_rows.specs.Given.{Slices, Systems}
use Rattle.tables_count.proofs.Ones.{pairs_raster}
use Rattle.tables_first.specs.First.{First}
use Rattle.tables_settle.specs.State.{Settled}
use Rattle.tables_widest.specs.Whole.{WidestAnswers}
use Rattle.tables_widest.proofs.StartLaws.{pairs_long, start_between}

-- what is left of all pairs is the widest table
left_widest : {A : Signature} {L R : FiniteSystem A} {keep holds lm rm : List ℕ} {sides : Sides}
    → Systems A L R keep holds lm rm sides
    → stage (pair_rule L R).keep (pairs L R) (sides.left_states * sides.right_states) ≡ widest L R
unfolding widest
left_widest {L = L} {R = R} {sides = sides} G =
    ap (λ (x : ℕ). stage (pair_rule L R).keep (pairs L R) (x * sides.right_states)) (sym G.moves.left_size)
    ∙ ap (λ (x : ℕ). stage (pair_rule L R).keep (pairs L R) (L.size * x)) (sym G.moves.right_size)

module _ {keep holds lm rm : List ℕ} {sides : Sides} (S : Slices keep holds lm rm sides) where
  abbrev n : ℕ
  n = sides.left_states

  abbrev w : ℕ
  w = sides.right_states

  pub widest_answered : {d k k' stamps : List ℕ} {count r : ℕ} {start : Bool} → n * bytes_for w ≤ length d
      → First lm rm keep holds n w sides.steps d k stamps count → Settled lm rm n w sides.steps k k' r
      → start ≡ set_at w k' sides.left_start sides.right_start
      → WidestAnswers keep holds lm rm sides d k' r start
  widest_answered {d} {k} {k'} room F D e A L R G =
      let wide : 0 < w = omega (arith, S.right_start) in
      let same : denoted n w k' ≡ widest L R =
      D.left A L R G.moves (pairs L R) (pairs_long G) (λ j x. x)
      (start_between G S.left S.right wide F) ∙ left_widest G in
      let over : Raster n w (denoted n w k') k k' = D.raster F.spare in
      let W : Raster n w (widest L R) d k' = subst (λ (X : List Bool). Raster n w X d k') same (record {
        long = over.long;
        room = room;
        sized = over.sized ∙ F.sized;
        rows = over.rows;
        past = λ i h. over.past i h ∙ F.past i h;
      }) in
      record {
        raster_is_widest = raster_is wide W;
        count_is = D.counted ∙ pairs_raster wide W;
        start_is = e ∙ raster_bit W sides.left_start sides.right_start S.left_start S.right_start ∙ cells;
      }
    where
      cells : at (widest L R) (sides.left_start * w + sides.right_start) ≡ at (widest L R)
          (L.start * R.size + R.start)
      cells =
          ap (λ (x : ℕ). at (widest L R) (x * w + sides.right_start)) (sym G.left_start)
          ∙ ap (λ (x : ℕ). at (widest L R) (L.start * x + sides.right_start)) (sym G.moves.right_size)
          ∙ ap (λ (x : ℕ). at (widest L R) (L.start * R.size + x)) (sym G.right_start)
