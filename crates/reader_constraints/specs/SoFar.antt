-- The comparisons that were read before a fault, the one that it is in too where it is not one too many: what is missing
-- of that one is 0, and `<=` for its sign. A stage that is handed a fault has read nothing.
use Rattle.std.specs.Prelude.{Bool, true, false, List, ℕ, zero, suc, Result, Ok, if◌then◌else◌}
use Rattle.reader_tokens.specs.Kinds as kinds
use Rattle.reader_record.specs.declared.Name.{Name}
use Rattle.reader_record.specs.declared.Sign.TheVariants.{AtMost}
use Rattle.reader_record.specs.declared.Comparison.{Comparison}
use Rattle.reader_record.specs.declared.Constraint.{Constraint}
use Rattle.reader_parts.specs.declared.Fault.{Fault}
use Rattle.reader_parts.specs.Stages.{◌>>=◌, take, ahead_of}
use Rattle.reader_parts.specs.Names.{use_name}
use Rattle.reader_parts.specs.Slots.{first_clock}
use Rattle.reader_parts.specs.SoFar.{read_or}
use Rattle.reader_constraints.specs.Constraints.{least_constant, sign_next, blank_constraint, with_comparison, constant, comparison_next}
use Rattle.limits.specs.Limits.{clock_limit, comparison_limit}

-- what is read at one tick length, `period` (SPECIFICATION 4.7)
module _ (period : ℕ) where
  -- a clock, a sign and a constant
  unfoldable pub comparison_so_far : List ℕ → Result ℕ Fault → List Name → Bool → Bool → Comparison
  comparison_so_far s at names invariant over =
      let clock = at >>= λ p. use_name s p names first_clock clock_limit over in
      let read = clock >>= λ u. sign_next s u.end invariant in
      let bound = read >>= λ r. constant period (least_constant invariant r.sign) s r.end in
      record {
        clock = read_or (λ u. u.number) clock 0;
        sign = read_or (λ r. r.sign) read AtMost;
        bound = read_or (λ a. a.value) bound 0;
      }

  -- the comparisons after c, for so many of which there is room: one past them is not among them
  unfoldable pub constraint_so_far : ℕ → List ℕ → List Name → Bool → Result ℕ Fault → Constraint → Constraint
  constraint_so_far zero s names invariant at c = c
  constraint_so_far (suc room) s names invariant at c =
      let x = at >>= λ p. comparison_next period s p names invariant false in
      let end = x >>= λ y. Ok y.end in
      let d = with_comparison c (read_or (λ y. y.comparison) x (comparison_so_far s at names invariant false)) in
      let more = constraint_so_far room s names invariant (end >>= λ q. take s q kinds.both) d in
      if ahead_of s end kinds.both then more else d

  -- those of an optional constraint, behind the token that opens it
  unfoldable pub optional_so_far : ℕ → Bool → List ℕ → Result ℕ Fault → List Name → Constraint
  optional_so_far opening invariant s at names =
      let from = at >>= λ p. take s p opening in
      let given = constraint_so_far comparison_limit s names invariant from blank_constraint in
      if ahead_of s at opening then given else blank_constraint

  abbrev pub guard_so_far : List ℕ → Result ℕ Fault → List Name → Constraint
  guard_so_far = optional_so_far kinds.guard false

  abbrev pub invariant_so_far : List ℕ → Result ℕ Fault → List Name → Constraint
  invariant_so_far = optional_so_far kinds.opens true
