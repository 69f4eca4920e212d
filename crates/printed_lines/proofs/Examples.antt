-- Lines, computed.
use Rattle.std.specs.Prelude.{◌≡◌, refl, [], ◌∷◌}
use Rattle.refusals.specs.Refusals.{start_not_safe, rule_broken}
use Rattle.reader_record.specs.declared.Direction.TheVariants.{Input, Output}
use Rattle.byte_slices.specs.Decimal.{ascii, digit, digits, decimal}
use Rattle.printed_lines.specs.Lines.{spaced, line, refusal_line, direction_mark, channel_line, step_line, step_lines, departure_lines}

-- an unsafe start
pub refused_17 : refusal_line (start_not_safe 0) ≡ ascii "REFUSED 17 1 0 0\n"
unfolding refusal_line line spaced decimal digits digit
refused_17 = refl

-- a rule broken by step 2 at the pair of left state 12 and right state 305, of 4,096
pub refused_20 : refusal_line (rule_broken 4096 (record { number = 2 }) 12 305) ≡ ascii "REFUSED 20 0 2 49457\n"
unfolding refusal_line line spaced decimal digits digit
refused_20 = refl

-- two steps by the channels of `a? b!`, the second of them and the tick
pub departs_in_2 :
    departure_lines (ascii "a? b!")
    (record { name = record { place = 0; len = 1 }; direction = Input }
    ∷ record { name = record { place = 3; len = 1 }; direction = Output } ∷ [])
    2 (2 ∷ 0 ∷ 1 ∷ []) ≡ ascii "NO 2\nb!\ntick\n"
unfolding departure_lines step_lines step_line channel_line direction_mark line spaced decimal digits digit
departs_in_2 = refl
