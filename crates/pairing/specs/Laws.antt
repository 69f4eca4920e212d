-- The tests of a channel and the numbers of a step, by cases.
use Rattle.std.specs.Prelude.{◌≡◌, refl, Bool, true, false, List, ℕ, ◌≤◌, ◌<◌}
use Rattle.std.proofs.Common.{sym, arith}
use mathlib.Core.Bool.{beq}
use borrow.Author.Tests.{eq-eqb, ne_eqb, lt-ltb, le-ltb, le-leb, lt-leb}
use Rattle.reader_record.specs.declared.Text.{Text}
use Rattle.clocks.specs.States.{input}
use Rattle.pairing.specs.Channels.{name_of, partner, agree, matched, right_step}

-- two directions agree where they are equal
pub agree_equal : (a b : Bool) → beq a b ≡ agree a b
unfolding agree
agree_equal true true = refl
agree_equal true false = refl
agree_equal false true = refl
agree_equal false false = refl

module _ (s : List ℕ) (l : Text) (u : List ℕ) (r : Text) (c : ℕ) where
  -- the channel is lacking, or there
  pub matched_none : (d : ℕ) → d ≡ partner s (name_of l c) u r → d ≡ 0 → matched s l u r c ≡ false
  unfolding matched
  matched_none d e z = rw (sym e, eq-eqb d 0 z)

  pub matched_some :
      (d : ℕ) → d ≡ partner s (name_of l c) u r → (d ≡ 0 → ⊥) → matched s l u r c ≡ agree (input l c) (input r d)
  unfolding matched
  matched_some d e z = rw (sym e, ne_eqb d 0 z)

  -- the step, by cases
  pub step_none : c ≡ 0 → right_step s l u r c ≡ 0
  unfolding right_step
  step_none z = rw (le-ltb 0 c (omega arith))

  pub step_over : (c ≡ 0 → ⊥) → l.channel_count < c → right_step s l u r c ≡ 0
  unfolding right_step
  step_over z h = rw (lt-ltb 0 c (omega arith), lt-leb c l.channel_count h)

  pub step_in : (c ≡ 0 → ⊥) → c ≤ l.channel_count → right_step s l u r c ≡ partner s (name_of l c) u r
  unfolding right_step
  step_in z h = rw (lt-ltb 0 c (omega arith), le-leb c l.channel_count h)
