-- A guard or an invariant that is read: its clocks are declared, its constants are allowed, and in an invariant every
-- sign is `<=`, or `<` before a constant above 0.
use Rattle.std.specs.Prelude.{◌≡◌, refl, Bool, List, T, Result, Ok, Option, Some, None, IfOk, eqb, ltb, length, drop}
use Rattle.std.proofs.lemmas.Result.{IfOk-weaker}
use Rattle.std.proofs.Common.{sym, ◌∙◌, arith, lt→ltb, length-set}
use Rattle.std.proofs.Math.Bool.{true, false}
use Prim.Native.Nat.{ℕ, zero, suc, ◌+◌, ◌≤◌, ◌<◌}
use borrow.Author.Tests.{ltb-false}
use Rattle.reader_parts.specs.Slots.{first_clock}
use Rattle.reader_tokens.specs.Kinds as kinds
use Rattle.reader_tokens.specs.Scan.{numeral_value}
use Rattle.reader_tokens.specs.Tokens.{token_at}
use Rattle.reader_tokens.specs.declared.Token.{Token}
use Rattle.reader_record.specs.declared.Name.{Name}
use Rattle.reader_record.specs.declared.Sign.{Sign}
use Rattle.reader_record.specs.Formed.{in_invariant}
use Rattle.reader_record.specs.declared.Comparison.{Comparison}
use Rattle.reader_record.specs.declared.Constraint.{Constraint}
use Rattle.reader_record.specs.Record as record_of
use Rattle.reader_parts.specs.declared.Fault.{Fault}
use Rattle.reader_parts.specs.Stages.{take, ahead}
use Rattle.reader_parts.specs.Binds.{and_then, after}
use Rattle.reader_constraints.specs.declared.Amount.{Amount}
use Rattle.reader_constraints.specs.declared.SignRead.{SignRead}
use Rattle.reader_constraints.specs.declared.ComparisonRead.{ComparisonRead}
use Rattle.reader_constraints.specs.declared.ConstraintRead.{ConstraintRead}
use Rattle.reader_constraints.specs.Constraints.{in_ticks, constant_of, constant, least_after, least_constant, sign_of, found_sign, sign_next, comparison_next, blank_constraint, with_comparison, constraint_from, constraint, optional}
use Rattle.reader_formed.proofs.Cases.{split, either, never, stored}
use Rattle.reader_formed.proofs.Declared.{Used, used}
use Rattle.reader_formed.proofs.Slots.{Known, used_below}
use Rattle.limits.specs.Limits.{clock_limit, comparison_limit, largest_constant}

-- a constant that is read
pub record Constant (least : ℕ) (a : Amount) : Type 0 where
  pub bound : a.value ≤ largest_constant
  pub enough : least ≤ a.value

-- a sign of an invariant, before a constant that may stand after it
abbrev Signed : Bool → SignRead → Type 0
Signed only r = only ≡ true → (b : ℕ) → least_after r.sign ≤ b → T (in_invariant r.sign b)

of_sign : (only : Bool) (t : Token) → IfOk (found_sign t (sign_of only t.kind)) (Signed only)
unfolding sign_of least_after in_invariant
of_sign only t =
    split P (eqb t.kind kinds.at_most)
    (λ _ o b h. tt)
    (λ _. split P (eqb t.kind kinds.less)
    (λ _ o b h. lt→ltb 0 b h)
    (λ _. split P only (λ _. tt) (λ e. not_only e _)))
  where
    P : Option Sign → Type 0
    P o = IfOk (found_sign t o) (Signed only)

    -- a guard's sign
    not_only : only ≡ false → (o : Option Sign) → P o
    not_only e (Some o) = λ q. never (sym q ∙ e)
    not_only e None = tt

sign_read : (s : List ℕ) (p : ℕ) (only : Bool) → IfOk (sign_next s p only) (Signed only)
unfolding sign_next
sign_read s p only = of_sign only (token_at s p)

-- a comparison in a text with so many clocks; `only`: it has only what an invariant may have
pub record FormedComparison (clocks : ℕ) (only : Bool) (x : Comparison) : Type 0 where
  pub clock : x.clock < clocks
  pub bound : x.bound ≤ largest_constant
  pub sign : only ≡ true → T (in_invariant x.sign x.bound)

-- in an invariant the least constant is the sign's
least_invariant : (only : Bool) (o : Sign) (b : ℕ) → only ≡ true → least_constant only o ≤ b → least_after o ≤ b
unfolding least_constant
least_invariant true o b e h = h
least_invariant false o b e h = never (sym e)

-- the comparisons of a constraint
pub record FormedComparisons (clocks : ℕ) (only : Bool) (c : Constraint) : Type 0 where
  pub few : c.count ≤ comparison_limit
  pub each : (i : ℕ) → i < c.count → FormedComparison clocks only (record_of.comparison c i)

-- those of one that is read, with room for more
record SoFar (clocks : ℕ) (only : Bool) (room : ℕ) (c : Constraint) : Type 0 where
  size : length c.comparisons ≡ comparison_limit
  limit : c.count + room ≤ comparison_limit
  each : (i : ℕ) → i < c.count → FormedComparison clocks only (record_of.comparison c i)

none_yet : (clocks : ℕ) (only : Bool) → SoFar clocks only comparison_limit blank_constraint
unfolding blank_constraint
none_yet clocks only = record { size = refl; limit = omega arith; each = λ i h. absurd (omega arith) }

with_one :
    (clocks : ℕ) (only : Bool) (room : ℕ) (c : Constraint) (x : Comparison) → FormedComparison clocks only x
    → SoFar clocks only (suc room) c → SoFar clocks only room (with_comparison c x)
unfolding with_comparison
with_one clocks only room c x f h = record {
  size = length-set c.comparisons c.count x ∙ h.size;
  limit = omega (arith, h.limit);
  each = λ i l. stored (FormedComparison clocks only) c.comparisons c.count i x record_of.no_comparison
      (omega (arith, h.limit, h.size))
      (λ _. f)
      (λ e. h.each i (omega arith));
}

whole :
    (clocks : ℕ) (only : Bool) (room : ℕ) (c : Constraint) → SoFar clocks only room c
    → FormedComparisons clocks only c
whole clocks only room c h = record { few = omega (arith, h.limit); each = h.each }

module _ (period : ℕ) where
  of_constant : (least : ℕ) (s : List ℕ) (t : Token) → IfOk (constant_of period least s t) (Constant least)
  unfolding constant_of
  of_constant least s t =
      split P (eqb t.kind kinds.numeral)
      (λ _. split P (ltb largest_constant v)
      (λ _. tt)
      (λ l. split P (ltb v least)
      (λ _. tt)
      (λ e. record { bound = ltb-false largest_constant v l; enough = ltb-false v least e })))
      (λ _. tt)
    where
      v : ℕ
      v = in_ticks period (numeral_value 0 (drop t.place s))

      P : Result Amount Fault → Type 0
      P a = IfOk a (Constant least)

  pub constant_read : (least : ℕ) (s : List ℕ) (p : ℕ) → IfOk (constant period least s p) (Constant least)
  unfolding constant
  constant_read least s p = of_constant least s (token_at s p)

  module _ (s : List ℕ) (names : List Name) (only : Bool) where
    -- a comparison that is read
    abbrev Compared : ComparisonRead → Type 0
    Compared x = (clocks : ℕ) → Known s names first_clock clock_limit clocks → FormedComparison clocks only x.comparison

    compared : (p : ℕ) (over : Bool) → IfOk (comparison_next period s p names only over) Compared
    unfolding comparison_next
    compared p over =
        and_then _ _ (Used names first_clock clock_limit over) _
        (used s names first_clock clock_limit (omega arith) over p)
        (λ clock u. and_then _ _ (Signed only) _ (sign_read s clock.end only)
        (λ read i. and_then _ _ (Constant (least_constant only read.sign)) _ (constant_read _ s read.end)
        (λ bound c n k. record {
          clock = used_below s names first_clock clock_limit n _ u k;
          bound = c.bound;
          sign = λ o. i o _ (least_invariant only _ _ o c.enough);
        })))

    -- a constraint that is read is formed where what came before is
    abbrev Constrained : ℕ → Constraint → ConstraintRead → Type 0
    Constrained room c r = (clocks : ℕ) → Known s names first_clock clock_limit clocks → SoFar clocks only room c
        → FormedComparisons clocks only r.constraint

    from_read : (closing room p : ℕ) (c : Constraint)
        → IfOk (constraint_from period room s names only closing p c) (Constrained room c)
    unfolding constraint_from
    from_read closing zero p c =
        and_then _ _ Compared _ (compared p true) (λ x _ n k h. whole n only zero c h)
    from_read closing (suc room) p c =
        and_then _ _ Compared _ (compared p false)
        (λ x m. either P (ahead s x.end kinds.both)
        (after _ _ (Constrained (suc room) c)
        (λ q. IfOk-weaker _ (Constrained room (with_comparison c x.comparison)) (Constrained (suc room) c)
        (λ r f n k h. f n k (with_one n only room c x.comparison (m n k) h))
        (from_read closing room q (with_comparison c x.comparison))))
        (after _ (λ q. Ok (record { constraint = with_comparison c x.comparison; end = q })) (Constrained (suc room) c)
        (λ q n k h. whole n only room (with_comparison c x.comparison)
        (with_one n only room c x.comparison (m n k) h))))
      where
        P : Result ConstraintRead Fault → Type 0
        P r = IfOk r (Constrained (suc room) c)

    -- an optional constraint that is read
    abbrev pub IsConstraintRead : ConstraintRead → Type 0
    IsConstraintRead r = (clocks : ℕ) → Known s names first_clock clock_limit clocks → FormedComparisons clocks only r.constraint

    given : (closing p : ℕ) → IfOk (constraint period s p names only closing) IsConstraintRead
    unfolding constraint
    given closing p = IfOk-weaker _ (Constrained comparison_limit blank_constraint) IsConstraintRead (λ r f n k. f n k (none_yet n only))
        (from_read closing comparison_limit p blank_constraint)

  pub optional_read :
      (opening : ℕ) (only : Bool) (closing : ℕ) (s : List ℕ) (p : ℕ) (names : List Name)
      → IfOk (optional period opening only closing s p names) (IsConstraintRead s names only)
  unfolding optional
  optional_read opening only closing s p names =
      either (λ (r : Result ConstraintRead Fault). IfOk r (IsConstraintRead s names only)) (ahead s p opening)
      (after (take s p opening) (λ q. constraint period s q names only closing) (IsConstraintRead s names only)
      (λ q. given s names only closing q))
      (λ n k. whole n only comparison_limit blank_constraint (none_yet n only))
