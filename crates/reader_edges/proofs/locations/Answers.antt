-- The locations that are read are those of a text.
use Rattle.std.proofs.Common.{◌<◌, arith}
use Rattle.reader_parts.specs.Binds.{of_ok}
use Rattle.reader_parts.specs.Facts.{use_small}
use Rattle.limits.specs.Limits.{location_limit}
use Rattle.reader_edges.proofs.locations.Goals as goal

pub overflow_cast-x : goal.overflow_cast-x
overflow_cast-x c =
    omega (arith, of_ok (λ u. u.number < location_limit) (use_small _ _ _ _ _ _) c.in_ok-source.ensures)

pub overflow_cast-x-2 : goal.overflow_cast-x-2
overflow_cast-x-2 c =
    omega (arith, of_ok (λ u. u.number < location_limit) (use_small _ _ _ _ _ _) c.in_ok-target.ensures)
