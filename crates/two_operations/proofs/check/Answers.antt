use Rattle.two_operations.proofs.Paths.{loaded_ready, loaded_bits, check_refused_done, check_done}
use Rattle.two_operations.proofs.check.Goals as goal

pub returns-in_err-t : goal.returns-in_err-t
returns-in_err-t c = check_refused_done _ _ _ _ _ _ _ _ c.in_err-t.ensures _ _ c.from_residual.result c.from_residual.ensures.1

pub check-requires : goal.check-requires
check-requires c =
    (loaded_ready _ _ _ _ _ _ _ _ c.in_ok-t.ensures, loaded_bits _ _ _ _ _ _ _ _ c.in_ok-t.ensures)

pub returns : goal.returns
returns c = check_done _ _ _ _ _ _ _ _ c.in_ok-t.ensures _ _ _ c.check.ensures
