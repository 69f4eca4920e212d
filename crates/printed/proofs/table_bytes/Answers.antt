-- The table of the state counts that reading gives.
use Rattle.printed.specs.Fits.{few_read}
use Rattle.printed.proofs.table_bytes.Goals as goal

pub table_length-requires : goal.table_length-requires
table_length-requires c =
    let args = c.args in
    (rw c.states_of.ensures (few_read args.right.now), rw c.states_of-2.ensures (few_read args.left.now))

pub returns : goal.returns
returns c = rw (c.states_of.ensures, c.states_of-2.ensures) at c.table_length.ensures
