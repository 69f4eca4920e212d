-- The locations, the guard, the label, the assignments, the brace.
use Rattle.written.specs.Written.{edge_tokens}
use Rattle.writer_tokens.specs.TokenLaws.{tokens_then}
use Rattle.writer_parts.specs.Parts.{arrow}
use Rattle.writer_parts.proofs.put_edge.Goals as goal

pub returns : goal.returns
unfolding edge_tokens arrow
returns c =
    tokens_then c.put_arrow-start.ensures
    (tokens_then c.put_constraint-guard.ensures
    (tokens_then c.put_label-label.ensures (tokens_then c.put_assignments-end.ensures
    c.put_token.ensures)))
