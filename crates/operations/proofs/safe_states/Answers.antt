-- A refusal when the text is measured is the operation's.
use Rattle.operations.proofs.Refused.{safe_refused}
use Rattle.operations.proofs.safe_states.Goals as goal

pub returns-in_err-m : goal.returns-in_err-m
returns-in_err-m c = safe_refused _ _ _ c.in_err-m.ensures _ c.from_residual.result c.from_residual.ensures.1
