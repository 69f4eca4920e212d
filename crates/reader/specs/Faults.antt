-- The refusal for each reason to refuse a text, by codes 1 to 8 (SPECIFICATION 4.5, 13.1). The text is taken for the left
-- or only one.
use Rattle.refusals.specs.declared.File.TheVariants.{Left}
use Rattle.refusals.specs.declared.Refusal.{Refusal}
use Rattle.refusals.specs.declared.Refusal.TheVariants as refusal
use Rattle.reader_parts.specs.declared.Fault.{Fault}
use Rattle.reader_parts.specs.declared.Fault.TheVariants as fault

unfoldable pub refusal_of : Fault → Refusal
refusal_of fault.TooLong = refusal.TextTooLong Left
refusal_of (fault.Misfit place) = refusal.Misfit Left place
refusal_of (fault.NameTooLong place) = refusal.NameTooLong Left place
refusal_of (fault.Declared place) = refusal.DeclaredBefore Left place
refusal_of (fault.Unknown place) = refusal.UnknownName Left place
refusal_of (fault.TooLarge place) = refusal.ConstantTooLarge Left place
refusal_of (fault.TooManyItems place) = refusal.TooManyItems Left place
refusal_of (fault.OtherMark place) = refusal.OtherMark Left place
