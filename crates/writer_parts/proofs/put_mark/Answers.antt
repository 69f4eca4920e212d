-- The mark of each direction.
use Rattle.written.specs.Written.{mark_bytes}
use Rattle.writer_parts.proofs.put_mark.Goals as goal

pub returns-in-Input : goal.returns-in-Input
unfolding mark_bytes
returns-in-Input c = rw c.in-Input.is c.put_token.ensures

pub returns-in-Output : goal.returns-in-Output
unfolding mark_bytes
returns-in-Output c =
    rw c.in-Output.is c.put_token-in-Output.ensures
