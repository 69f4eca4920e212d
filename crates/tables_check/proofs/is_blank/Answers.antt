use Rattle.tables_check.proofs.Laws.{blank_byte}
use Rattle.tables_check.proofs.is_blank.Goals as goal

pub returns : goal.returns
returns c = blank_byte c.args.row.now c.args.t c.if-t-ne0.false
