use Rattle.two_operations.proofs.Paths.{loaded_ready, loaded_bits, widest_refused_done, widest_done}
use Rattle.two_operations.proofs.widest.Goals as goal

pub returns-in_err-t : goal.returns-in_err-t
returns-in_err-t c = widest_refused_done _ _ _ _ _ _ _ _ c.in_err-t.ensures _ _ c.from_residual.result c.from_residual.ensures.1

pub widest-requires : goal.widest-requires
widest-requires c =
    (loaded_ready _ _ _ _ _ _ _ _ c.in_ok-t.ensures, loaded_bits _ _ _ _ _ _ _ _ c.in_ok-t.ensures)

pub returns : goal.returns
returns c = widest_done _ _ _ _ _ _ _ _ c.in_ok-t.ensures _ _ _ c.widest.ensures
