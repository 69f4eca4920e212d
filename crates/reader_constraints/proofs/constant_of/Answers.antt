-- What a clamped number comes to is too large only where the number itself is, and else is what the number comes to.
use Rattle.std.proofs.Common.{◌≤◌, ◌<◌, sym, ◌∙◌, ap, lt-ltb, le-ltb}
use Rattle.reader_constraints.specs.Constraints.{in_ticks, constant_of}
use Rattle.reader_tokens.specs.Clamped.{clamped_bound}
use Rattle.reader_constraints.proofs.Ticks.{unclamped_ticks, above_ticks}
use Rattle.limits.specs.Limits.{largest_constant}
use Rattle.reader_constraints.proofs.constant_of.Goals as goal

pub in_ticks-value-requires : goal.in_ticks-value-requires
in_ticks-value-requires c = (c.requires, rw c.number_at-n.ensures (clamped_bound _))

pub returns-then-value-gt-LARGEST_CONSTANT : goal.returns-then-value-gt-LARGEST_CONSTANT
unfolding constant_of
returns-then-value-gt-LARGEST_CONSTANT c =
    let ticks = c.in_ticks-value.ensures ∙ ap (in_ticks _) c.number_at-n.ensures in
    let over : largest_constant < c.in_ticks-value.result = c.if-value-gt-LARGEST_CONSTANT.true in
    rw (c.if-t-ne-NUMERAL.false, lt-ltb largest_constant _ (above_ticks _ c.requires _ (rw ticks at over)))

pub returns-then-value-least : goal.returns-then-value-least
unfolding constant_of
returns-then-value-least c =
    let ticks = c.in_ticks-value.ensures ∙ ap (in_ticks _) c.number_at-n.ensures in
    let allowed : c.in_ticks-value.result ≤ largest_constant = c.if-value-gt-LARGEST_CONSTANT.false in
    let value = ticks ∙ unclamped_ticks _ c.requires _ (rw ticks at allowed) in
    rw (c.if-t-ne-NUMERAL.false, sym value, le-ltb largest_constant _ allowed, lt-ltb _ _ c.if-value-least.true)

pub returns : goal.returns
unfolding constant_of
returns c =
    let ticks = c.in_ticks-value.ensures ∙ ap (in_ticks _) c.number_at-n.ensures in
    let fits : c.in_ticks-value.result ≤ largest_constant = c.if-value-gt-LARGEST_CONSTANT.false in
    let value = ticks ∙ unclamped_ticks _ c.requires _ (rw ticks at fits) in
    rw (c.if-t-ne-NUMERAL.false, sym value, le-ltb largest_constant _ fits, le-ltb _ _ c.if-value-least.false)
