-- Reading goes by the judgement of the text that is measured.
use Rattle.clocks_read.specs.Laws.{measured_reading}
use Rattle.operations.proofs.read_within.Goals as goal

pub returns : goal.returns
returns g c = measured_reading _ _ _ c.requires.given.0 _ _ _ c.judge.ensures.loading
