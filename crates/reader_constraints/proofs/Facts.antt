-- The constant of a comparison that is read is small.
use Rattle.std.specs.Prelude.{◌≡◌, Bool, true, false, List, ℕ, ◌≤◌, IfOk, eqb, ltb, drop}
use Rattle.std.proofs.Common.{refl, ltb-false}
use Rattle.reader_tokens.specs.Kinds as kinds
use Rattle.reader_tokens.specs.Scan.{numeral_value}
use Rattle.reader_tokens.specs.Tokens.{token_at}
use Rattle.reader_tokens.specs.declared.Token.{Token}
use Rattle.reader_constraints.specs.Constraints.{in_ticks, constant_of, constant}
use Rattle.limits.specs.Limits.{largest_constant}

module _ (period : ℕ) where
  constant_of_small : (least : ℕ) (s : List ℕ) (t : Token)
      → IfOk (constant_of period least s t) (λ a. a.value ≤ largest_constant)
  unfolding constant_of
  constant_of_small least s t = by (eqb t.kind kinds.numeral) (ltb largest_constant v) (ltb v least) refl refl refl
    where
      v : ℕ
      v = in_ticks period (numeral_value 0 (drop t.place s))

      by : (a b c : Bool) → eqb t.kind kinds.numeral ≡ a → ltb largest_constant v ≡ b → ltb v least ≡ c
          → IfOk (constant_of period least s t) (λ r. r.value ≤ largest_constant)
      by false b c e f g = rw e tt
      by true true c e f g = rw (e, f) tt
      by true false true e f g = rw (e, f, g) tt
      by true false false e f g = rw (e, f, g) (ltb-false largest_constant v f)

  pub constant_small : (least : ℕ) (s : List ℕ) (p : ℕ)
      → IfOk (constant period least s p) (λ a. a.value ≤ largest_constant)
  unfolding constant
  constant_small least s p = constant_of_small least s (token_at s p)
