-- The tick, or a channel.
use borrow.Author.Rules.{rules}
use mathlib.Core.Path.{sym, ◌∙◌}
use native.Mathlib.Omega.{arith}
use Rattle.byte_slices.specs.Put.{puts_same}
use Rattle.printed_lines.proofs.Laws.{tick_line, other_line, past_tick}
use Rattle.printed_lines.proofs.put_step.Goals as goal

pub returns-then-is_tick : goal.returns-then-is_tick
returns-then-is_tick c =
    let args = c.args in
    let asked = c.is_tick in
    puts_same (tick_line args.text.now args.channels args.step.number (sym asked.ensures ∙ c.if-is_tick.true))
    c.put_bytes.ensures

pub channel_at-k-requires : goal.channel_at-k-requires
channel_at-k-requires c =
    let step = c.args.step in
    let asked = c.is_tick in
    omega (arith, past_tick step.number (sym asked.ensures ∙ c.if-is_tick.false), c.channel.ensures)

pub returns : goal.returns
returns c =
    let args = c.args in
    let asked = c.is_tick in
    let k = c.channel_at-k in
    let number = c.channel in
    let same = other_line args.text.now args.channels args.step.number number.result k.result
    (sym asked.ensures ∙ c.if-is_tick.false) number.ensures k.ensures in
    puts_same same c.put_channel.ensures
