-- The channel that was read before a fault is one of a text.
use Rattle.std.specs.Prelude.{Ok}
use Rattle.reader_parts.specs.Binds.{beside_err}
use Rattle.reader_edges.specs.Facts.{label_stopped}
use Rattle.reader_edges.proofs.label_kept.Goals as goal

pub label_of-x-requires : goal.label_of-x-requires
label_of-x-requires c =
    let (_, read) = beside_err _ _ c.in-Err.ensures in
    rw (← read) (label_stopped _ _ (Ok _))
