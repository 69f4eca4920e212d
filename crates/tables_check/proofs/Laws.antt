-- Laws of the loops of the check: one step, one pair, one byte, one row on.
use mathlib.Core.Path.{◌≡◌, refl, sym, ap, ◌∙◌}
use mathlib.Core.Bool.{Bool, true, false}
use mathlib.Core.List.{List}
use Prim.Native.Nat.{ℕ, zero, suc, ◌+◌, ◌-◌, ◌/◌, ◌%◌, ◌≤◌, ◌<◌}
use native.Mathlib.Numerals.{add-one}
use native.Mathlib.Omega.{arith}
use lib.Dec.{eqb, ltb}
use lib.ListN.{get_or}
use borrow.Author.Tests.{eqb-true, lt-ltb, le-ltb, ltb-true, ltb-false}
use Rattle.std.specs.Prelude.{Result, Ok, Err, ⊤}
use Rattle.bitmaps.specs.Bits.{bit_at}
use Rattle.systems.specs.Tests.{least}
use Rattle.tables_rows.specs.Raster.{set_at}
use Rattle.tables_runs.specs.RunsLaws.{zero_byte}
use Rattle.tables_check.specs.Fault.{step, step_fault, fault_of_pair, picked, row_from, table_from}
use Rattle.tables_check.specs.Scan.{first_bad, fault_at, Blank}
use Rattle.tables_check.specs.declared.Fault.{Fault}
use Rattle.tables_check.specs.declared.Fault.TheVariants.{NotAllowed, Broken}
use Rattle.tables_check.specs.declared.FailedPair.{FailedPair}

pub least_yes : (p : ℕ → Bool) (c n : ℕ) → c < n → p c ≡ true → least p c (n - c) ≡ c
unfolding least
least_yes p c n h e = let m : n - c ≡ suc (n - (c + 1)) = omega arith in ap (least p c) m ∙ rw (e, least)

pub least_no : (p : ℕ → Bool) (c n : ℕ) → c < n → p c ≡ false → least p c (n - c) ≡ least p (c + 1) (n - (c + 1))
unfolding least
least_no p c n h e = let m : n - c ≡ suc (n - (c + 1)) = omega arith in
    ap (least p c) m ∙ rw (e, least) (ap (λ (x : ℕ). least p x (n - (c + 1))) (sym (add-one c)))

pub least_end : (p : ℕ → Bool) (c n : ℕ) → n ≤ c → least p c (n - c) ≡ c
unfolding least
least_end p c n h = let m : n - c ≡ 0 = omega arith in rw m

pub picked_fine : (f : Result ⊤ Fault) (s t : ℕ) (rest : Result ⊤ FailedPair) → f ≡ Ok tt → picked f s t rest ≡ rest
unfolding picked
picked_fine f s t rest e = rw e

pub picked_fault : (f : Result ⊤ Fault) (s t : ℕ) (fault : Fault) (rest : Result ⊤ FailedPair) → f ≡ Err fault
    → picked f s t rest ≡ Err (fault_of_pair fault s t)
unfolding picked
picked_fault f s t fault rest e = rw e

module _ (f : ℕ → ℕ → Result ⊤ Fault) (w : ℕ) where
  pub row_step : (s t : ℕ) (rest : Result ⊤ FailedPair) → t < w
      → row_from f s (w - t) t rest ≡ picked (f s t) s t (row_from f s (w - (t + 1)) (t + 1) rest)
  unfolding row_from
  row_step s t rest h = let m : w - t ≡ suc (w - (t + 1)) = omega arith in rw m

  -- the same, where the pair has been judged
  pub row_judged : (s t : ℕ) (x : Result ⊤ Fault) (rest : Result ⊤ FailedPair) → t < w → x ≡ f s t
      → row_from f s (w - t) t rest ≡ picked x s t (row_from f s (w - (t + 1)) (t + 1) rest)
  row_judged s t x rest h e =
      row_step s t rest h ∙ ap (λ y. picked y s t (row_from f s (w - (t + 1)) (t + 1) rest)) (sym e)

  pub row_done : (s t : ℕ) (rest : Result ⊤ FailedPair) → w ≤ t → row_from f s (w - t) t rest ≡ rest
  unfolding row_from
  row_done s t rest h = let m : w - t ≡ 0 = omega arith in rw m

  -- columns that do not fail are passed over
  row_next : (s t : ℕ) (rest : Result ⊤ FailedPair) → (t < w → f s t ≡ Ok tt)
      → row_from f s (w - t) t rest ≡ row_from f s (w - (t + 1)) (t + 1) rest
  row_next s t rest h = by (ltb t w) refl
    where
      by : (b : Bool) → ltb t w ≡ b → row_from f s (w - t) t rest ≡ row_from f s (w - (t + 1)) (t + 1) rest
      by true e = row_step s t rest (ltb-true t w e) ∙ picked_fine (f s t) s t _ (h (ltb-true t w e))
      by false e =
          row_done s t rest (ltb-false t w e) ∙ sym (row_done s (t + 1) rest (omega (arith, ltb-false t w e)))

  pub row_skip : (m s t : ℕ) (rest : Result ⊤ FailedPair) → ((i : ℕ) → t ≤ i → i < t + m → i < w → f s i ≡ Ok tt)
      → row_from f s (w - t) t rest ≡ row_from f s (w - (t + m)) (t + m) rest
  row_skip zero s t rest h = let z : t + 0 ≡ t = omega arith in rw z
  row_skip (suc m) s t rest h =
      let z : t + suc m ≡ t + m + 1 = omega arith in
      row_skip m s t rest (λ i a b c. h i a (omega arith) c)
      ∙ row_next s (t + m) rest (λ c. h (t + m) (omega arith) (omega arith) c)
      ∙ rw z

  pub table_step : (n s : ℕ) → s < n → table_from f w (n - s) s ≡ row_from f s (w - 0) 0
      (table_from f w (n - (s + 1)) (s + 1))
  unfolding table_from
  table_step n s h = let m : n - s ≡ suc (n - (s + 1)) = omega arith in let z : w - 0 ≡ w = omega arith in rw (m, z)

  -- a row of which no pair fails
  pub row_passed : (n s : ℕ) → s < n → ((t : ℕ) → t < w → f s t ≡ Ok tt)
      → table_from f w (n - s) s ≡ table_from f w (n - (s + 1)) (s + 1)
  row_passed n s h fine =
      let rest = table_from f w (n - (s + 1)) (s + 1) in
      table_step n s h ∙ row_skip w s 0 rest (λ i a b c. fine i c) ∙ row_done s (0 + w) rest (omega arith)

  pub table_end : (n s : ℕ) → n ≤ s → table_from f w (n - s) s ≡ Ok tt
  unfolding table_from
  table_end n s h = let m : n - s ≡ 0 = omega arith in rw m

pub blank_not : (row : List ℕ) (t : ℕ) → Blank false row t
blank_not row t = record { unset = λ e i a b. let z : ◌≡◌ {A = ℕ} 0 1 = cc in absurd (omega arith) }

-- a byte that is 0 has no bit
pub blank_byte : (row : List ℕ) (t : ℕ) → t % 8 ≡ 0 → Blank (eqb (get_or row (t / 8) 0) 0) row t
blank_byte row t h = record {
  unset = λ e i a b. zero_byte row (t / 8) (eqb-true (get_or row (t / 8) 0) 0 e) i (omega arith);
}

-- the judgement of a pair, test by test
module _ (lm rm keep holds : List ℕ) (w steps : ℕ) (k : List ℕ) (s t : ℕ) where
  pub fault_unset : set_at w k s t ≡ false → fault_at lm rm keep holds w steps k s t ≡ Ok tt
  unfolding fault_at
  fault_unset e = rw e

  module _ (set : set_at w k s t ≡ true) where
    pub fault_unsafe : bit_at keep s ≡ false → fault_at lm rm keep holds w steps k s t ≡ Err NotAllowed
    unfolding fault_at
    fault_unsafe e = rw (set, e)

    pub fault_untrue : bit_at keep s ≡ true → bit_at holds t ≡ false → fault_at lm rm keep holds w steps k s t
        ≡ Err NotAllowed
    unfolding fault_at
    fault_untrue e f = rw (set, e, f)

    pub fault_rules : bit_at keep s ≡ true → bit_at holds t ≡ true
        → fault_at lm rm keep holds w steps k s t ≡ step_fault steps (first_bad lm rm w steps k s t)
    unfolding fault_at
    fault_rules e f = rw (set, e, f)

-- a step that breaks a rule is one of the steps
pub step_broken : (steps c : ℕ) → c < steps → step_fault steps c ≡ Err (Broken (step c))
unfolding step_fault
step_broken steps c h = rw (lt-ltb c steps h)

pub step_fine : (steps c : ℕ) → steps ≤ c → step_fault steps c ≡ Ok tt
unfolding step_fault
step_fine steps c h = rw (le-ltb c steps h)
