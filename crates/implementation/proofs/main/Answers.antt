-- The bytes laid stand at the front of what is lent.
use mathlib.Core.Path.{sym}
use lib.Seq.{length-take-le}
use Rattle.byte_slices.specs.Put.{laid_front}
use Rattle.implementation.proofs.main.Goals as goal

pub slice_bounds-out-end : goal.slice_bounds-out-end
slice_bounds-out-end c = (laid_front _ _ c.implementation-size.ensures.prints).0

pub slice_bounds-put-end : goal.slice_bounds-put-end
slice_bounds-put-end c = sym (length-take-le c.implementation-size.result _ (laid_front _ _ c.implementation-size.ensures.prints).0)
