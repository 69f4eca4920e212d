-- Guards and invariants (SPECIFICATION 3.1, 3.2, 3.4), with limits on comparisons and constants (SPECIFICATION 4.3);
-- their constants are milliseconds and come to ticks (SPECIFICATION 4.7).
use Rattle.std.specs.Prelude.{Bool, true, false, List, ℕ, zero, suc, ◌+◌, ◌*◌, ◌/◌, Result, Ok, Err, Option, Some, None, ◌==◌, nat_lt, if◌then◌else◌, drop, set, replicate}
use Rattle.reader_tokens.specs.Kinds as kinds
use Rattle.reader_tokens.specs.Scan.{numeral_value}
use Rattle.reader_tokens.specs.Tokens.{token_at}
use Rattle.reader_tokens.specs.declared.Token.{Token}
use Rattle.reader_record.specs.Record.{no_comparison}
use Rattle.reader_record.specs.declared.Name.{Name}
use Rattle.reader_record.specs.declared.Sign.{Sign}
use Rattle.reader_record.specs.declared.Sign.TheVariants.{AtMost, AtLeast, Equal, Less, Greater}
use Rattle.reader_record.specs.declared.Comparison.{Comparison}
use Rattle.reader_record.specs.declared.Constraint.{Constraint}
use Rattle.reader_parts.specs.declared.Fault.{Fault}
use Rattle.reader_parts.specs.declared.Fault.TheVariants.{Misfit, TooLarge}
use Rattle.reader_parts.specs.Stages.{◌>>=◌, take, ahead}
use Rattle.reader_parts.specs.Names.{use_name}
use Rattle.reader_parts.specs.Slots.{first_clock}
use Rattle.reader_constraints.specs.declared.Amount.{Amount}
use Rattle.reader_constraints.specs.declared.SignRead.{SignRead}
use Rattle.reader_constraints.specs.declared.ComparisonRead.{ComparisonRead}
use Rattle.reader_constraints.specs.declared.ConstraintRead.{ConstraintRead}
use Rattle.limits.specs.Limits.{clock_limit, comparison_limit, largest_constant}

-- what a number of milliseconds comes to in ticks of `period` milliseconds: the nearest whole number, an exact half
-- upward (SPECIFICATION 4.7)
unfoldable pub in_ticks : ℕ → ℕ → ℕ
in_ticks period c = (2 * c + period) / (2 * period)

-- the least constant that may stand after a sign in an invariant: 0, but 1 after `<`, since `x < 0` would forbid the
-- whole location (SPECIFICATION 3.2)
unfoldable pub least_after : Sign → ℕ
least_after AtMost = 0
least_after AtLeast = 0
least_after Equal = 0
least_after Less = 1
least_after Greater = 0

-- the same in a guard or an invariant: in a guard 0 may stand after every sign
unfoldable pub least_constant : Bool → Sign → ℕ
least_constant invariant o = if invariant then least_after o else 0

-- the sign that a token of this kind is (SPECIFICATION 3.1); an invariant has but the first two (SPECIFICATION 3.2)
unfoldable pub sign_of : Bool → ℕ → Option Sign
sign_of invariant k =
    if k == kinds.at_most then Some AtMost
    else if k == kinds.less then Some Less
    else if invariant then None
    else if k == kinds.at_least then Some AtLeast
    else if k == kinds.greater then Some Greater
    else if k == kinds.equal then Some Equal
    else None

-- a sign that was found, and the place behind its token; else code 2 (SPECIFICATION 4.5)
abbrev pub found_sign : Token → Option Sign → Result SignRead Fault
found_sign t (Some o) = Ok (record { sign = o; end = t.end })
found_sign t None = Err (Misfit t.place)

-- the next token as a sign
unfoldable pub sign_next : List ℕ → ℕ → Bool → Result SignRead Fault
sign_next s p invariant = let t = token_at s p in found_sign t (sign_of invariant t.kind)

-- of no comparison, and as long as the code's array (the `no_constraint` of reader_record stands past the end of a
-- list, where an array inside is empty)
unfoldable pub blank_constraint : Constraint
blank_constraint = record { comparisons = replicate comparison_limit no_comparison; count = 0 }

-- one comparison more
unfoldable pub with_comparison : Constraint → Comparison → Constraint
with_comparison c x = record { comparisons = set c.comparisons c.count x; count = c.count + 1 }

-- what is read at one tick length, `period` (SPECIFICATION 4.7)
module _ (period : ℕ) where
  -- a token that has to be a numeral: else code 2, and 6 where it comes to more ticks than the limit (SPECIFICATION
  -- 4.2, 4.5, 4.7); where it comes to fewer than the least number that may stand there it is 2 as well (SPECIFICATION
  -- 3.2)
  unfoldable pub constant_of : ℕ → List ℕ → Token → Result Amount Fault
  constant_of least s t =
      let v = in_ticks period (numeral_value 0 (drop t.place s)) in
      if t.kind == kinds.numeral then
      if nat_lt largest_constant v then Err (TooLarge t.place)
      else if nat_lt v least then Err (Misfit t.place)
      else Ok (record { value = v; end = t.end })
      else Err (Misfit t.place)

  -- the next token as a constant
  unfoldable pub constant : ℕ → List ℕ → ℕ → Result Amount Fault
  constant least s p = constant_of least s (token_at s p)

  -- a comparison (SPECIFICATION 3.1); `over`: it is one too many, which is code 7 at its clock (SPECIFICATION 4.5)
  unfoldable pub comparison_next : List ℕ → ℕ → List Name → Bool → Bool → Result ComparisonRead Fault
  comparison_next s p names invariant over = do
    clock ← use_name s p names first_clock clock_limit over
    read ← sign_next s clock.end invariant
    bound ← constant (least_constant invariant read.sign) s read.end
    Ok (record {
      comparison = record { clock = clock.number; sign = read.sign; bound = bound.value };
      end = bound.end;
    })

  -- comparisons joined by `&&`, then the closing token; there is room for so many after c, and the first past them is
  -- refused. There is one comparison at least (SPECIFICATION 3.4)
  unfoldable pub constraint_from : ℕ → List ℕ → List Name → Bool → ℕ → ℕ → Constraint → Result ConstraintRead Fault
  constraint_from zero s names invariant closing p c = do
    x ← comparison_next s p names invariant true
    Ok (record { constraint = c; end = x.end })
  constraint_from (suc room) s names invariant closing p c = do
    x ← comparison_next s p names invariant false
    let d = with_comparison c x.comparison
    let more = take s x.end kinds.both >>= λ q. constraint_from room s names invariant closing q d
    let last = take s x.end closing >>= λ q. Ok (record { constraint = d; end = q })
    if ahead s x.end kinds.both then more else last

  -- as many comparisons as the limit allows (SPECIFICATION 4.3)
  unfoldable pub constraint : List ℕ → ℕ → List Name → Bool → ℕ → Result ConstraintRead Fault
  constraint s p names invariant closing = constraint_from comparison_limit s names invariant closing p blank_constraint

  -- an optional constraint: the token that opens it, its comparisons and the token that closes it
  unfoldable pub optional : ℕ → Bool → ℕ → List ℕ → ℕ → List Name → Result ConstraintRead Fault
  optional opening invariant closing s p names =
      let given = take s p opening >>= λ q. constraint s q names invariant closing in
      if ahead s p opening then given else Ok (record { constraint = blank_constraint; end = p })

  -- the guard of an edge, where there is one (SPECIFICATION 3.1)
  abbrev pub guard : List ℕ → ℕ → List Name → Result ConstraintRead Fault
  guard = optional kinds.guard false kinds.semicolon

  -- the invariant of a location, where there is one (SPECIFICATION 3.1)
  abbrev pub invariant : List ℕ → ℕ → List Name → Result ConstraintRead Fault
  invariant = optional kinds.opens true kinds.closes
