-- The token that opens a constraint is ahead, so that it is taken.
use Rattle.std.proofs.Common.{sym, ◌∙◌}
use Rattle.reader_parts.specs.Binds.{beside_err}
use Rattle.reader_parts.specs.Facts.{ahead_no_fault}
use Rattle.reader_constraints.proofs.optional.Goals as goal

pub returns-in_err-q : goal.returns-in_err-q
returns-in_err-q c =
    let (none, _) = beside_err _ _ c.in_err-q.ensures in
    absurd (ahead_no_fault _ c.args.at _ (sym c.ahead.ensures ∙ c.if-not-ahead.false) (sym c.take.ensures ∙ none))
