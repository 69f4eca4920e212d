-- Past the end of the list stands a channel without a name.
use borrow.Author.Rules.{rules}
use native.Mathlib.Omega.{arith}
use mathlib.Core.Path.{sym}
use lib.ListN.{get_or-eq_default}
use Rattle.reader_record.specs.Record.{no_channel}
use Rattle.printed_lines.proofs.channel_at.Goals as goal

pub returns-then-c-gt-CHANNEL_LIMIT : goal.returns-then-c-gt-CHANNEL_LIMIT
returns-then-c-gt-CHANNEL_LIMIT c =
    let args = c.args in
    sym (get_or-eq_default args.channels no_channel (omega arith))
