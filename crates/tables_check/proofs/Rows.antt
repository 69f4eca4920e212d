-- Laws of a row that is cut whole: what is left of it, and that it passes if all of it is left.
use mathlib.Core.Path.{◌≡◌, refl, sym, ap, ◌∙◌}
use mathlib.Core.Logic.{inl, inr, ⊎_elim}
use mathlib.Core.Bool.{Bool, true, false, ◌&&◌}
use mathlib.Core.List.{List}
use Prim.Native.Nat.{ℕ, zero, suc, ◌+◌, ◌-◌, ◌≤◌, ◌<◌}
use native.Mathlib.Decide.{ℕ_discrete}
use native.Mathlib.Omega.{arith}
use lib.Bits.{bit_or, bit_xor, or_add_and, xor_add_and, and_le_l, and_le_r}
use lib.ListN.{get_or}
use Rattle.std.specs.Prelude.{Result, Ok, ⊤}
use Rattle.systems.specs.Tests.{least}
use Rattle.bitmaps.specs.Bits.{bit_at}
use Rattle.bitmaps.specs.BitLaws.{less}
use Rattle.tables_rows.specs.Raster.{set_at}
use Rattle.tables_ranges.specs.Cut.{Cut, from_bit}
use Rattle.tables_runs.specs.Runs.{Within}
use Rattle.tables_cut.specs.Rule.{fine, Loaded}
use Rattle.tables_cut.specs.RuleLaws.{loaded_bit}
use Rattle.tables_check.specs.declared.Fault.{Fault}
use Rattle.tables_check.specs.Scan.{fails_at, first_bad, fault_at, Sifted, RowPasses}
use Rattle.tables_check.proofs.Laws.{fault_unset, fault_rules, step_fine}

-- the first i bytes of two rows are the same
module _ (row before : List ℕ) where
  abbrev pub Same : ℕ → Type 0
  Same i = (j : ℕ) → j < i → get_or row j 0 ≡ get_or before j 0

  -- one byte more, if nothing has changed
  pub same_more : (d i : ℕ) → (d ≡ 0 → Same i) → bit_or d (bit_xor (get_or row i 0) (get_or before i 0)) ≡ 0 → Same (i + 1)
  same_more d i old z j l = elim (ℕ_discrete j i) [
    | yes e ↦ ap (λ (x : ℕ). get_or row x 0) e ∙ here ∙ ap (λ (x : ℕ). get_or before x 0) (sym e)
    | no e ↦ ⊎_elim (λ h. old none.0 j h) (λ h. absurd (e (omega arith))) (less j i)
  ]
    where
      x : ℕ
      x = bit_xor (get_or row i 0) (get_or before i 0)

      none : (d ≡ 0) × (x ≡ 0)
      none = (
        omega (arith, z, or_add_and d x, and_le_l d x, and_le_r d x),
        omega (arith, z, or_add_and d x, and_le_l d x, and_le_r d x),
      )

      here : get_or row i 0 ≡ get_or before i 0
      here = omega (
        arith,
        none.1,
        xor_add_and (get_or row i 0) (get_or before i 0),
        and_le_l (get_or row i 0) (get_or before i 0),
        and_le_r (get_or row i 0) (get_or before i 0),
      )

both : (a b : Bool) → (a && b) ≡ true → (a ≡ true) × (b ≡ true)
both true true e = (refl, refl)
both true false e = (refl, e)
both false b e = let z : ◌≡◌ {A = ℕ} 0 1 = cc in absurd (omega arith)

pub passes_not : (f : ℕ → ℕ → Result ⊤ Fault) (w s : ℕ) → RowPasses false f w s
passes_not f w s = record { fine_at = λ e. let z : ◌≡◌ {A = ℕ} 0 1 = cc in absurd (omega arith) }

-- no step that fails
least_none : (p : ℕ → Bool) (m c : ℕ) → ((b : ℕ) → c ≤ b → b < c + m → p b ≡ false) → least p c m ≡ c + m
unfolding least
least_none p zero c f = omega arith
least_none p (suc m) c f =
    rw (f c (omega arith) (omega arith), least)
    (least_none p m (suc c) (λ b l h. f b (omega arith) (omega arith)) ∙ omega arith)

module _ (lm rm : List ℕ) (w steps : ℕ) (k : List ℕ) (s : ℕ) where
  pub sifted_none : (row : List ℕ) → Sifted lm rm w steps k s 0 row row
  sifted_none row = record { sized = refl; left = λ t h x. (x, λ c l. absurd (omega arith)) }

  -- cut by one step more
  pub sifted_more : {m : ℕ} {row row₁ row₂ : List ℕ} → Sifted lm rm w steps k s m row row₁
      → Cut 0 w (fine lm rm w steps k s m) row₁ row₂ → Sifted lm rm w steps k s (m + 1) row row₂
  sifted_more {m} {row} {row₁} {row₂} S C = record {
    sized = C.sized ∙ S.sized;
    left = λ t h x.
        let (was, ok) = both (bit_at row₁ t) (fine lm rm w steps k s m t) (sym (C.inside t (omega arith) h) ∙ x) in
        let (y, all) = S.left t h was in (
          y,
          λ c l. elim (ℕ_discrete c m) [
            | yes e ↦ ap (λ (z : ℕ). fine lm rm w steps k s z t) e ∙ ok
            | no e ↦ ⊎_elim (λ b. all c b) (λ b. absurd (e (omega arith))) (less c m)
          ],
        );
  }

  none_fails : (t : ℕ) → ((c : ℕ) → c < steps → fine lm rm w steps k s c t ≡ true)
      → steps ≤ first_bad lm rm w steps k s t
  unfolding first_bad fails_at
  none_fails t all =
      omega (arith, least_none (fails_at lm rm w steps k s t) steps 0 (λ b l m. rw (all b (omega arith))))

  module _ (keep holds : List ℕ) where
    from_start : (i : ℕ) → bit_at holds i ≡ from_bit holds 0 0 i
    unfolding from_bit
    from_start i = let z : i ≡ 0 + (i - 0) = omega arith in ap (bit_at holds) z

    -- a row in which nothing is set
    pub passes_empty : {row : List ℕ} {from to : ℕ} → Loaded w k s row → Within w row from to → from ≡ to → (t : ℕ)
        → t < w → fault_at lm rm keep holds w steps k s t ≡ Ok tt
    passes_empty {row} {from} {to} L W e t h = fault_unset lm rm keep holds w steps k s t
        (sym (loaded_bit w k s row L t (omega arith))
        ∙ W.outside t h (⊎_elim inl (λ l. inr (omega arith)) (less t from)))

    -- a row of which all is left
    pub passes_whole : {row row₁ row₂ : List ℕ} → bit_at keep s ≡ true → Cut 0 w (from_bit holds 0 0) row row₁
        → Sifted lm rm w steps k s steps row₁ row₂ → Loaded w k s row₂ → (t : ℕ) → t < w → fault_at lm rm keep holds w steps k s t ≡ Ok tt
    passes_whole {row} {row₁} {row₂} safe C S L t h = by (set_at w k s t) refl
      where
        by : (b : Bool) → set_at w k s t ≡ b → fault_at lm rm keep holds w steps k s t ≡ Ok tt
        by false e = fault_unset lm rm keep holds w steps k s t e
        by true e =
            let (was, all) = S.left t h (loaded_bit w k s row₂ L t (omega arith) ∙ e) in
            let held = (both (bit_at row t) (from_bit holds 0 0 t) (sym (C.inside t (omega arith) h) ∙ was)).1 in
            fault_rules lm rm keep holds w steps k s t e safe (from_start t ∙ held)
            ∙ step_fine steps (first_bad lm rm w steps k s t) (none_fails t all)
