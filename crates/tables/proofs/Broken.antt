-- A pair that breaks a rule is one of the table's.
use Rattle.std.specs.Prelude.{Result, Ok, Err, ⊤}
use mathlib.Core.Path.{◌≡◌, sym, ap, ◌∙◌}
use mathlib.Core.Logic.{⊎_elim}
use mathlib.Core.Bool.{Bool, true, false, cond}
use mathlib.Core.List.{List}
use Prim.Native.Nat.{ℕ, ◌+◌, ◌*◌, ◌≤◌, ◌<◌}
use native.Mathlib.Omega.{arith}
use Rattle.move_tables.specs.declared.Sides.{Sides}
use Rattle.steps.specs.declared.Step.{Step}
use Rattle.tables_rows.specs.Raster.{set_at}
use Rattle.tables_count.specs.Pairs.{pairs_set}
use Rattle.tables_check.specs.declared.Fault.{Fault}
use Rattle.tables_check.specs.declared.Fault.TheVariants as fault
use Rattle.tables_check.specs.declared.FailedPair.{FailedPair}
use Rattle.tables_check.specs.declared.FailedPair.TheVariants.{NotAllowedAt, BrokenAt}
use Rattle.tables_check.specs.Fault.{picked, table_from}
use Rattle.tables_check.specs.Scan.{fault_at}
use Rattle.tables_check.specs.Judged.{LowestFault}
use Rattle.tables_check.proofs.Exact.{scan_told}
use Rattle.tables.specs.Found.{InTable}
use Rattle.tables_whole.specs.Answer.{answer_of, raster_answer}
use Rattle.tables_whole.specs.declared.TableFault.{TableFault}
use Rattle.tables_whole.specs.declared.TableFault.TheVariants.{StartNotSet, Broken}

picked_in : (f : Result ⊤ Fault) (n w s t : ℕ) (c : Step) (i j : ℕ) → s < n → t < w
    → picked f s t (Ok tt) ≡ Err (BrokenAt c i j) → (i < n) × (j < w)
unfolding picked
picked_in (Ok fine) n w s t c i j h k e = let z : ◌≡◌ {A = ℕ} 0 1 = cc in absurd (omega arith)
picked_in (Err fault.NotAllowed) n w s t c i j h k e = let z : ◌≡◌ {A = ℕ} 0 1 = cc in absurd (omega arith)
picked_in (Err (fault.Broken b)) n w s t c i j h k e =
    let p : s ≡ i = cc in
    let q : t ≡ j = cc in
    (omega arith, omega arith)

passed_broken : (x : Result ⊤ FailedPair) (c : Step) (s t : ℕ) → x ≡ Ok tt → x ≡ Err (BrokenAt c s t) → ⊥
passed_broken x c s t p e = let z : ◌≡◌ {A = ℕ} 0 1 = cc in absurd (omega arith)

found_in : (f : ℕ → ℕ → Result ⊤ Fault) (n w : ℕ) (c : Step) (i j : ℕ)
    → table_from f w n 0 ≡ Err (BrokenAt c i j) → (i < n) × (j < w)
found_in f n w c i j e =
    ⊎_elim (λ (p, q). absurd (passed_broken _ c i j p e))
    (λ (l : LowestFault f n w (table_from f w n 0)). picked_in (f l.s l.t) n w l.s l.t c i j l.row_in
    l.column_in (sym l.named ∙ e))
    (scan_told f n w)

answer_broken : (b : Bool) (f : Result ⊤ FailedPair) (m : ℕ) (c : Step) (s t : ℕ)
    → cond b (answer_of f m) (Err StartNotSet) ≡ Err (Broken c s t) → f ≡ Err (BrokenAt c s t)
unfolding answer_of
answer_broken true (Ok passed) m c s t e = let z : ◌≡◌ {A = ℕ} 0 1 = cc in absurd (omega arith)
answer_broken true (Err (NotAllowedAt i j)) m c s t e = let z : ◌≡◌ {A = ℕ} 0 1 = cc in absurd (omega arith)
answer_broken true (Err (BrokenAt b i j)) m c s t e = cc
answer_broken false f m c s t e = let z : ◌≡◌ {A = ℕ} 0 1 = cc in absurd (omega arith)

pub raster_in : (keep holds lm rm : List ℕ) (sides : Sides) (k : List ℕ) (r : Result ℕ TableFault)
    → r ≡ raster_answer keep holds lm rm sides k → (fault : TableFault) → r ≡ Err fault
    → InTable sides.left_states sides.right_states fault
unfolding raster_answer
raster_in keep holds lm rm sides k r e fault g c s t q =
    let n = sides.left_states in
    let w = sides.right_states in
    let f = fault_at lm rm keep holds w sides.steps k in
    found_in f n w c s t (answer_broken (set_at w k sides.left_start sides.right_start) (table_from f w n 0) (pairs_set (set_at w k) w n) c s t
    (sym e ∙ g ∙ ap Err q))
