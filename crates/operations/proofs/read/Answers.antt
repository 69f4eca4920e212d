-- A refusal when the text is measured is the operation's.
use Rattle.clocks_read.specs.Laws.{nothing_refused}
use Rattle.operations.proofs.Refused.{read_refused}
use Rattle.operations.proofs.read.Goals as goal

pub returns-in_err-parsed : goal.returns-in_err-parsed
returns-in_err-parsed c = record {
  outcome = read_refused _ _ _ c.in_err-parsed.ensures c.from_residual.result c.from_residual.ensures.1;
  refused = nothing_refused c.from_residual.result;
}
