-- Clamping on the way does not change the clamped value.
use Rattle.std.proofs.Common.{arith, sym, ◌∙◌, ap}
use Rattle.reader_tokens.specs.Scan.{clamped}
use Rattle.reader_tokens.proofs.Scan.{value_yes, clamped_value}
use Rattle.reader_tokens.specs.Clamped.{clamped_bound}
use Rattle.reader_tokens.proofs.number_at.Goals as goal

pub loop-i-preserved : goal.loop-i-preserved
loop-i-preserved c = rw c.with_digit-v.ensures (
  clamped_bound _,
  clamped_value _ _
      ∙ (ap clamped (sym (value_yes _ c.loop-i.i _ (omega arith) (sym c.is_digit.ensures ∙ c.if-not-is_digit.false)))
      ∙ c.loop-i.invariant.1),
)
