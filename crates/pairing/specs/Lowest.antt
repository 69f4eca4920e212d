-- Laws of `lowest`: a search that goes up from 1, and what it finds.
use Rattle.std.specs.Prelude.{◌≡◌, Bool, true, false}
use Rattle.std.proofs.Common.{sym, ◌∙◌}
use Prim.Native.Nat.{ℕ, zero, suc, ◌+◌, ◌-◌, ◌≤◌, ◌<◌}
use Rattle.std.proofs.Math.Numerals.{add-one}
use native.Mathlib.Omega.{arith}
use Rattle.reader_formed.proofs.Cases.{split, when_equal, never}
use Rattle.pairing.specs.Channels.{first_from, lowest}

-- what is left to search from `at` on
abbrev pub upward : (ℕ → Bool) → ℕ → ℕ → ℕ
upward p n at = first_from p at (n + 1 - at)

module _ (p : ℕ → Bool) (n : ℕ) where
  pub search_begins : upward p n 1 ≡ lowest p n
  unfolding lowest
  search_begins = let e : n + 1 - 1 ≡ n = omega arith in rw e

  module _ (at : ℕ) where
    pub search_finds : at ≤ n → p at ≡ true → upward p n at ≡ at
    unfolding first_from
    search_finds h e = let r : n + 1 - at ≡ suc (n - at) = omega arith in rw (r, e)

    pub search_goes : at ≤ n → p at ≡ false → upward p n at ≡ upward p n (at + 1)
    unfolding first_from
    search_goes h e =
        let r : n + 1 - at ≡ suc (n - at) = omega arith in
        let q : n + 1 - (at + 1) ≡ n - at = omega arith in
        rw (r, e, q, add-one at)

    pub search_ends : n < at → upward p n at ≡ 0
    unfolding first_from
    search_ends h = let r : n + 1 - at ≡ 0 = omega arith in rw r

-- what a search finds, and what it leaves where it finds nothing
pub record Found (p : ℕ → Bool) (at end c : ℕ) : Type 0 where
  pub passes : p c ≡ true
  pub low : at ≤ c
  pub high : c < end

module _ (p : ℕ → Bool) where
  from_none : (room at : ℕ) → 0 < at → first_from p at room ≡ 0 → (c : ℕ) → at ≤ c → c < at + room → p c ≡ false
  unfolding first_from
  from_none zero at z = λ e c l h. absurd (omega arith)
  from_none (suc room) at z =
      split (λ (k : ℕ). k ≡ 0 → (c : ℕ) → at ≤ c → c < at + suc room → p c ≡ false) (p at)
      (λ _ e. absurd (omega arith))
      (λ q e c l h. when_equal (p c ≡ false) c at
      (λ i. rw i q)
      (λ i. from_none room (suc at) (omega arith) e c (omega arith) (omega arith)))

  from_found : (room at : ℕ) → 0 < first_from p at room → Found p at (at + room) (first_from p at room)
  unfolding first_from
  from_found zero at = λ h. absurd (omega arith)
  from_found (suc room) at =
      split (λ (k : ℕ). 0 < k → Found p at (at + suc room) k) (p at)
      (λ q _. record { passes = q; low = omega arith; high = omega arith })
      (λ _ h. let f = from_found room (suc at) h in
      record { passes = f.passes; low = omega (arith, f.low); high = omega (arith, f.high) })

  pub lowest_none : (n : ℕ) → lowest p n ≡ 0 → (c : ℕ) → 0 < c → c ≤ n → p c ≡ false
  unfolding lowest
  lowest_none n e c l h = from_none n 1 (omega arith) e c (omega arith) (omega arith)

  pub lowest_found : (n : ℕ) → 0 < lowest p n → Found p 1 (1 + n) (lowest p n)
  unfolding lowest
  lowest_found n h = from_found n 1 h

  -- it finds something where something passes
  pub lowest_some : (n c : ℕ) → 0 < c → c ≤ n → p c ≡ true → 0 < lowest p n
  lowest_some n c l h e =
      when_equal (0 < lowest p n) (lowest p n) 0
      (λ z. never (sym e ∙ lowest_none n z c l h))
      (λ z. omega arith)
