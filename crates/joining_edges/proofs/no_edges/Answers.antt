-- An empty list of edges.
use mathlib.Core.Path.{refl}
use native.Mathlib.Omega.{arith}
use Rattle.joining_edges.proofs.no_edges.Goals as goal

pub returns : goal.returns
returns c = record { count = refl; few = omega arith; room = refl; each = λ i l. absurd (omega arith) }
