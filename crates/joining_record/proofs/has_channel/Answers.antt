-- has_channel: no edge passed so far has the channel.
use mathlib.Core.Path.{◌≡◌, sym, ◌∙◌}
use Rattle.reader_record.specs.Record.{channel}
use Rattle.joining_edges.specs.Edges.{edge_at}
use Rattle.joining_record.specs.Laws.{up_to_next, has_yes, has_not}
use native.Mathlib.Omega.{arith}
use Rattle.joining_record.proofs.has_channel.Goals as goal

pub returns-then-channel_of-c : goal.returns-then-channel_of-c
returns-then-channel_of-c c =
    λ xs h. sym (has_yes xs c.args.es h c.args.c c.loop-i.i (omega arith)
    (sym c.channel_of.ensures ∙ c.if-channel_of-c.true))

pub loop-i-preserved : goal.loop-i-preserved
loop-i-preserved c =
    let a = c.args in
    up_to_next (λ j. channel (edge_at a.es.list j).label ≡ a.c → ⊥) c.loop-i.i c.loop-i.invariant
    (λ e. c.if-channel_of-c.false (c.channel_of.ensures ∙ e))

pub returns : goal.returns
returns c = λ xs h. sym (has_not xs c.args.es h c.args.c (λ j k. c.loop-i.invariant j (omega arith)))
