use Rattle.two_operations.proofs.Paths.{loaded_ready, loaded_bits, search_refused, search_done}
use mathlib.Core.Path.{refl}
use Rattle.two_operations.proofs.search.Goals as goal

pub returns-in_err-t : goal.returns-in_err-t
returns-in_err-t c = (search_refused _ _ _ _ _ _ _ _ c.in_err-t.ensures _ _ _ _ c.from_residual.result c.from_residual.ensures.1, λ f. (refl, refl))

pub search-requires : goal.search-requires
search-requires c =
    (loaded_ready _ _ _ _ _ _ _ _ c.in_ok-t.ensures, loaded_bits _ _ _ _ _ _ _ _ c.in_ok-t.ensures)

pub returns : goal.returns
returns c = (search_done _ _ _ _ _ _ _ _ c.in_ok-t.ensures _ _ _ _ _ c.search.ensures.0, c.search.ensures.1)
