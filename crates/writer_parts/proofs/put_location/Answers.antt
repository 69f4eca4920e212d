-- The name, then the invariant.
use Rattle.written.specs.Written.{called}
use Rattle.writer_tokens.specs.TokenLaws.{tokens_then}
use Rattle.writer_parts.specs.Parts.{located}
use Rattle.writer_parts.proofs.put_location.Goals as goal

pub returns : goal.returns
unfolding located called
returns c =
    tokens_then c.put_named-name.ensures
    c.put_constraint.ensures
