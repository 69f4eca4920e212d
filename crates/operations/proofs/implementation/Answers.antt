-- A refusal when the text is measured is the operation's.
use Rattle.operations.proofs.Refused.{implementation_refused}
use Rattle.operations.proofs.implementation.Goals as goal

pub returns-in_err-m : goal.returns-in_err-m
returns-in_err-m c = implementation_refused _ _ _ c.in_err-m.ensures c.from_residual.result c.from_residual.ensures.1
