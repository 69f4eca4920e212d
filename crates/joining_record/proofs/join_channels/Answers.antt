-- join_channels: the channels passed so far are those of the joined record.
use mathlib.Core.Path.{◌≡◌}
use native.Mathlib.Numerals.{add-one}
use lib.ListN.{length-set}
use Rattle.reader_record.specs.Record.{no_channel}
use Rattle.joined.specs.Joined.{joined_channel}
use Rattle.joining_items.specs.Laws.{kept_more}
use Rattle.joining_record.specs.Laws.{channel_joined}
use native.Mathlib.Omega.{arith}
use Rattle.joining_record.proofs.join_channels.Goals as goal

pub loop-i-init : goal.loop-i-init
loop-i-init c = (c.no_channels-list.ensures, λ xs h j k. absurd (omega arith))

pub loop-i-preserved : goal.loop-i-preserved
loop-i-preserved c =
    let used = c.has_channel-used in
    let loop = c.loop-i in
    let a = c.args in (
      simp length-set loop.invariant.0,
      λ xs h. kept_more no_channel (λ j x. x ≡ joined_channel a.l xs j) loop.list loop.i
          c.join_channel.result
          (omega (arith, loop.invariant.0, c.requires.0))
          (channel_joined a.l xs loop.i c.join_channel.result used.result
          (rw (add-one loop.i) at (used.ensures xs h))
          c.join_channel.ensures.0 c.join_channel.ensures.1) (loop.invariant.1 xs h),
    )

pub returns : goal.returns
returns c = λ xs h j k. c.loop-i.invariant.1 xs h j (omega arith)
