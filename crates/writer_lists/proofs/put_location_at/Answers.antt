-- The location's name and its invariant.
use Rattle.written.specs.Written.{location_tokens}
use Rattle.writer_parts.specs.Parts.{located}
use Rattle.writer_lists.proofs.put_location_at.Goals as goal

pub put_location-requires : goal.put_location-requires
put_location-requires c =
    c.requires.0.invariants c.args.i
    c.requires.1

pub returns : goal.returns
unfolding location_tokens located
returns c = c.put_location.ensures
