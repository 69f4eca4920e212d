-- `assign` that is ahead is taken.
use Rattle.std.proofs.Common.{Ok, sym, ◌∙◌}
use Rattle.reader_parts.specs.Binds.{beside_err}
use Rattle.reader_parts.specs.Facts.{ahead_no_fault}
use Rattle.reader_edges.proofs.assigns.Goals as goal

pub returns-in_err-q : goal.returns-in_err-q
returns-in_err-q c =
    let (none, _) = beside_err _ _ c.in_err-q.ensures in
    absurd (ahead_no_fault _ (Ok _) _ (sym c.ahead.ensures ∙ c.if-not-ahead.false) (sym c.take.ensures ∙ none))
