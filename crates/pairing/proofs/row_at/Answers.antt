-- `row_at` copies the row.
use lib.ListN.{replicate}
use Rattle.limits.specs.Limits.{step_limit}
use Rattle.pairing.proofs.Turns.{row_copied}
use Rattle.pairing.proofs.row_at.Goals as goal

pub returns : goal.returns
returns c =
    row_copied c.args.moves.now (replicate step_limit 0) c.copy_from_slice.new.self c.args.from c.args.width
    c.requires.inside c.requires.few c.copy_from_slice.ensures.after
