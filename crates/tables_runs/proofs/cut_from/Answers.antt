-- cut_from passes over bytes in which nothing is set, or cuts the run.
use Rattle.std.proofs.Common.{arith}
use Rattle.tables_runs.specs.RunsLaws.{blank_one, blank_join}
use Rattle.tables_runs.proofs.Laws.{blank_cut}
use Rattle.tables_runs.proofs.cut_from.Goals as goal

pub returns-then-row-t-eq0 : goal.returns-then-row-t-eq0
returns-then-row-t-eq0 c =
    let next = c.first_byte.ensures in (
      omega arith,
      (omega arith, blank_cut c.min.result (blank_join (blank_one c.if-row-t-eq0.true) next.1.1) (omega arith)),
    )
