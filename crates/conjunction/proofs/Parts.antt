-- Laws of specs/Definitions.antt which the definitions of Conjunction.antt need.
use Rattle.std.specs.Prelude.{◌≡◌, ◌↔◌, Bool, not, ℕ, ◌≤◌, T}
use Rattle.std.proofs.Common.{sym, subst}
use Rattle.std.proofs.Math.Option.{Option, none, some}
use Rattle.systems.specs.Bools.{none_some, and_T, and_both}
use Rattle.systems.specs.Definitions.{Signature}
use Rattle.conjunction.specs.Definitions.{together, both_next, both_hold, SameSignature}

together_some : {X Y : Type 0} (o : Option X) (p : Option Y) (z : X × Y) → together o p ≡ some z
    → (o ≡ some z.0) × (p ≡ some z.1)
unfolding together
together_some none p z e = none_some z e
together_some (some x) none z e = none_some z e
together_some (some x) (some y) z e = (cc, cc)

-- a step from a pair is one from each, and two steps are one from the pair
module _ {X Y : Type 0} (f : X → ℕ → Option X) (g : Y → ℕ → Option Y) where
  pub both_next_elim : (z : X × Y) (c : ℕ) (w : X × Y) → both_next f g z c ≡ some w
      → (f z.0 c ≡ some w.0) × (g z.1 c ≡ some w.1)
  unfolding both_next
  both_next_elim z c w e = together_some (f z.0 c) (g z.1 c) w e

  pub both_next_intro : (z : X × Y) (c : ℕ) (w : X × Y) → f z.0 c ≡ some w.0 → g z.1 c ≡ some w.1
      → both_next f g z c ≡ some w
  unfolding both_next together
  both_next_intro z c w a b = rw (a, b)

pub both_hold_iff : {X Y : Type 0} (p : X → Bool) (q : Y → Bool) (z : X × Y)
    → T (both_hold p q z) ↔ (T (p z.0) × T (q z.1))
unfolding both_hold
both_hold_iff p q z = (and_both (p z.0) (q z.1), λ (a, b). and_T (p z.0) (q z.1) a b)

-- the steps of signatures that say the same
pub flipped : {A B : Signature} → SameSignature A B → SameSignature B A
flipped s = record { channels = sym s.channels; input = λ c. sym (s.input c) }

module _ {A B : Signature} (s : SameSignature A B) where
  pub known : (c : ℕ) → c ≤ A.channels → c ≤ B.channels
  known c l = rw s.channels at l

  pub into : (c : ℕ) → T (A.input c) → T (B.input c)
  into c t = subst T (s.input c) t

  pub from : (c : ℕ) → T (B.input c) → T (A.input c)
  from c t = subst T (sym (s.input c)) t

  pub own_into : (c : ℕ) → T (not (A.input c)) → T (not (B.input c))
  own_into c t = subst (λ (b : Bool). T (not b)) (s.input c) t

  pub own_from : (c : ℕ) → T (not (B.input c)) → T (not (A.input c))
  own_from c t = subst (λ (b : Bool). T (not b)) (sym (s.input c)) t
