-- The check accepts exactly the tables that the theory's check accepts.
use Rattle.std.specs.Prelude.{◌≡◌, refl, ◌↔◌, Bool, true, false, List, ℕ, ◌+◌, ◌*◌, ◌≤◌, ◌<◌, T, length, Result, Ok, Err, ⊤}
use Rattle.std.proofs.Common.{sym, ◌∙◌, arith}
use Rattle.std.proofs.Math.Path.{ap}
use Rattle.std.proofs.Math.Bool.{cond}
use Rattle.systems.specs.Bools.{T_true}
use Rattle.systems.specs.Tests.{at, ones}
use Rattle.systems.specs.Definitions.{Signature}
use Rattle.systems.specs.Finite.{FiniteSystem, check}
use Rattle.bitmaps.specs.Packed.{bytes_for}
use Rattle.move_tables.specs.declared.Sides.{Sides}
use Rattle.tables_rows.specs.Given.{Systems}
use Rattle.tables_rows.specs.Raster.{set_at, denoted, raster_of}
use Rattle.tables_rows.specs.RasterLaws.{raster_rows, raster_bit}
use Rattle.tables_count.specs.Pairs.{pairs_set}
use Rattle.tables_count.proofs.Ones.{pairs_ones, denoted_raster}
use Rattle.tables_check.specs.Fault.{table_from}
use Rattle.tables_check.specs.Scan.{fault_at}
use Rattle.tables_check.specs.Judged.{pairs_judged}
use Rattle.tables_check.proofs.Exact.{judged_is, check_judged}
use Rattle.tables_check.specs.declared.FailedPair.{FailedPair}
use Rattle.tables_whole.specs.Answer.{answer_of, raster_answer}
use Rattle.tables_whole.specs.declared.TableFault.{TableFault}
use Rattle.tables_whole.specs.declared.TableFault.TheVariants.{StartNotSet}

accepted_found : (f : Result ⊤ FailedPair) (m c : ℕ) → answer_of f m ≡ Ok c → (f ≡ Ok tt) × (c ≡ m)
unfolding answer_of
accepted_found (Ok passed) m c e = (refl, cc)
accepted_found (Err found) m c e = let z : ◌≡◌ {A = ℕ} 0 1 = cc in absurd (omega arith)

accepted_start : (b : Bool) (x : Result ℕ TableFault) (c : ℕ) → cond b x (Err StartNotSet) ≡ Ok c
    → T b × (x ≡ Ok c)
accepted_start true x c e = (tt, e)
accepted_start false x c e = let z : ◌≡◌ {A = ℕ} 0 1 = cc in absurd (omega arith)

module _ {A : Signature} (L R : FiniteSystem A) {keep holds lm rm : List ℕ} {sides : Sides}
    (G : Systems A L R keep holds lm rm sides) where
  abbrev n : ℕ
  n = sides.left_states

  abbrev w : ℕ
  w = sides.right_states

  starts : (k : List ℕ) → set_at w k sides.left_start sides.right_start ≡ set_at w k L.start R.start
  starts k = ap (λ (s : ℕ). set_at w k s sides.right_start) (sym G.left_start)
      ∙ ap (set_at w k L.start) (sym G.right_start)

  -- what the slices answer is what is found in the relation that the raster denotes (SPECIFICATION 11.5)
  pub raster_answered : (k : List ℕ)
      → raster_answer keep holds lm rm sides k ≡ cond (set_at w k L.start R.start)
      (answer_of (pairs_judged L R (set_at w k)) (ones (denoted n w k))) (Err StartNotSet)
  unfolding raster_answer
  raster_answered k =
      ap (λ (b : Bool). cond b (answer_of (table_from (fault_at lm rm keep holds w sides.steps k) w n 0)
      (pairs_set (set_at w k) w n)) (Err StartNotSet)) (starts k)
      ∙ ap (λ (f : Result ⊤ FailedPair). cond (set_at w k L.start R.start) (answer_of f (pairs_set (set_at w k) w n))
      (Err StartNotSet)) (judged_is L R k G)
      ∙ ap (λ (m : ℕ). cond (set_at w k L.start R.start) (answer_of (pairs_judged L R
      (set_at w k)) m) (Err StartNotSet))
      (pairs_ones n w k)

  -- a raster is accepted exactly if the theory's check accepts the relation, with the number of pairs set
  pub raster_accepted : (k : List ℕ) (c : ℕ)
      → (raster_answer keep holds lm rm sides k ≡ Ok c) ↔
      (T (check L R (set_at w k)) × (c ≡ ones (denoted n w k)))
  unfolding answer_of
  raster_accepted k c = (
    λ e.
        let (a, f) = accepted_start (set_at w k L.start R.start)
        (answer_of (pairs_judged L R (set_at w k)) (ones (denoted n w k))) c (sym (raster_answered k) ∙ e) in
        let (p, q) = accepted_found (pairs_judged L R (set_at w k)) (ones (denoted n w k)) c f in
        ((check_judged L R (set_at w k)).1 (a, p), q),
    λ (h, e).
        let (a, p) = (check_judged L R (set_at w k)).0 h in
        raster_answered k ∙ rw (T_true (set_at w k L.start R.start) a, p, e),
  )

-- the relation that the raster of a table X denotes is X
pub raster_denotes : (n w : ℕ) (X : List Bool) (d : List ℕ) → 0 < w → length X ≡ n * w → n * bytes_for w ≤ length d
    → denoted n w (raster_of n w X d) ≡ X
raster_denotes n w X d wide long room = denoted_raster wide (raster_rows d long room)

pub raster_pairs : (n w : ℕ) (X : List Bool) (d : List ℕ) → length X ≡ n * w → n * bytes_for w ≤ length d → (s t : ℕ)
    → s < n → t < w → set_at w (raster_of n w X d) s t ≡ at X (s * w + t)
raster_pairs n w X d long room s t hs ht = raster_bit (raster_rows d long room) s t hs ht
