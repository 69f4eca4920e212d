-- first_cut makes the masks and cuts every row by them.
use Rattle.tables_first.proofs.Laws.{first_is}
use Rattle.tables_first.proofs.first_cut.Goals as goal

pub returns : goal.returns
returns c =
    first_is c.args.lm.now c.args.rm.now c.args.holds.now c.find_masks.new.masks c.args.sides.right_states
    c.args.sides.steps c.find_masks.ensures c.first_rows.ensures
