-- `is_tick_length` is `tick_allowed`.
use borrow.Author.Tests.{lt-ltb, le-ltb}
use Rattle.limits.specs.Limits.{shortest_tick, tick_allowed}
use Rattle.limits.proofs.is_tick_length.Goals as goal

pub returns-then-period-lt-SHORTEST_TICK : goal.returns-then-period-lt-SHORTEST_TICK
unfolding tick_allowed
returns-then-period-lt-SHORTEST_TICK c = rw (lt-ltb _ shortest_tick c.if-period-lt-SHORTEST_TICK.true)

pub returns : goal.returns
unfolding tick_allowed
returns c = rw (le-ltb _ shortest_tick c.if-period-lt-SHORTEST_TICK.false)
