-- A row that is cut by one step after the other.
use Rattle.std.specs.Prelude.{◌≡◌, ◌⊎◌, Bool, not, ◌&&◌, List, ℕ, ◌+◌, ◌/◌, ◌≤◌, ◌<◌, T}
use Rattle.std.proofs.Common.{sym, subst, ◌∙◌, inl, inr, ⊎_elim, arith}
use Rattle.std.proofs.Math.Decide.{ℕ_discrete}
use Rattle.systems.specs.Bools.{T_dec, and_T, and_left, and_right}
use Rattle.bitmaps.specs.Bits.{bit_at}
use Rattle.bitmaps.specs.BitLaws.{less}
use Rattle.bitmaps.specs.Packed.{bytes_for}
use Rattle.tables_ranges.specs.Cut.{Cut}

-- the row after the steps before c: a bit that is kept was there before and passes each of them that was not left out,
-- and a bit that is gone fails one
pub record Cuts (w : ℕ) (old : ℕ → Bool) (left_out : ℕ → Type 0) (ok : ℕ → ℕ → Bool) (c : ℕ) (row : List ℕ)
    : Type 0 where
  pub kept : (t : ℕ) → t < w → T (bit_at row t) → T (old t) × ((b : ℕ) → b < c → left_out b ⊎ T (ok b t))
  pub gone : (t : ℕ) → t < w → T (old t) → T (bit_at row t) ⊎ ((b : ℕ) × (b < c) × T (not (ok b t)))
  pub spare : (t : ℕ) → w ≤ t → t / 8 < bytes_for w → bit_at row t ≡ old t

-- what is so for the steps before c, and for step c
one_more : (P : ℕ → Type 0) (c : ℕ) → ((b : ℕ) → b < c → P b) → P c → (b : ℕ) → b < c + 1 → P b
one_more P c all last b h = elim (ℕ_discrete b c) [
  | yes e ↦ subst P (sym e) last
  | no e ↦ all b (⊎_elim (λ l. l) (λ l. absurd (e (omega arith))) (less b c))
]

module _ {w : ℕ} {old : ℕ → Bool} {left_out : ℕ → Type 0} {ok : ℕ → ℕ → Bool} where
  pub cuts_none : {row : List ℕ} → ((t : ℕ) → t / 8 < bytes_for w → bit_at row t ≡ old t) → Cuts w old left_out ok 0 row
  cuts_none f = record {
    kept = λ t h x. (subst T (f t (omega arith)) x, λ b l. absurd (omega arith));
    gone = λ t h x. inl (subst T (sym (f t (omega arith))) x);
    spare = λ t l h. f t h;
  }

  -- step c is left out
  pub cuts_skip : {c : ℕ} {row : List ℕ} → Cuts w old left_out ok c row → left_out c
      → Cuts w old left_out ok (c + 1) row
  cuts_skip {c} A l = record {
    kept = λ t h x. let (y, all) = A.kept t h x in (y, one_more (λ b. left_out b ⊎ T (ok b t)) c all (inl l));
    gone = λ t h x. ⊎_elim inl (λ (b, m, y). inr (b, omega arith, y)) (A.gone t h x);
    spare = A.spare;
  }

  -- the row is cut by step c
  pub cuts_more : {c : ℕ} {row row' : List ℕ} → Cuts w old left_out ok c row → Cut 0 w (ok c) row row'
      → Cuts w old left_out ok (c + 1) row'
  cuts_more {c} {row} A C = record {
    kept = λ t h x.
        let both : T (bit_at row t && ok c t) = subst T (C.inside t (omega arith) h) x in
        let (y, all) = A.kept t h (and_left (bit_at row t) (ok c t) both) in
        (y, one_more (λ b. left_out b ⊎ T (ok b t)) c all (inr (and_right (bit_at row t) (ok c t) both)));
    gone = λ t h x. ⊎_elim
        (λ y. ⊎_elim (λ z. inl (subst T (sym (C.inside t (omega arith) h)) (and_T (bit_at row t) (ok c t) y z)))
        (λ z. inr (c, omega arith, z)) (T_dec (ok c t)))
        (λ (b, m, y). inr (b, omega arith, y)) (A.gone t h x);
    spare = λ t l h. C.outside t (inr l) ∙ A.spare t l h;
  }
