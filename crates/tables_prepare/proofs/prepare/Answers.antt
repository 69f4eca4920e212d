-- `tables_prepare::prepare` meets its contract, by the callees' contracts and the law of its one path.
use borrow.Author.Rules.{rules}
use Rattle.tables_prepare.specs.Paths.{prepared}
use Rattle.tables_prepare.proofs.prepare.Goals as goal

pub returns : goal.returns
returns c =
    prepared c.args.sides c.args.inputs c.args.lh.now c.args.lm.now _ c.args.keep.now _ c.safe.result _
    c.requires.0 c.requires.1 c.safe.ensures c.prune.ensures c.get.ensures
