-- The first i channels are put.
use mathlib.Core.List.{[], ◌∷◌}
use native.Mathlib.Omega.{arith}
use Rattle.reader_tokens.specs.Scan.{bytes}
use Rattle.written.specs.Written.{channel_list}
use Rattle.writer_tokens.specs.TokenLaws.{tokens_then, left_all}
use Rattle.written_names.specs.Inside.{names_in}
use Rattle.writer_lists.specs.Lists.{channel_item}
use Rattle.writer_lists.specs.ListLaws.{list_none, list_some, list_next}
use Rattle.writer_lists.proofs.put_channels.Goals as goal

pub returns-then-count-eq0 : goal.returns-then-count-eq0
unfolding channel_list
returns-then-count-eq0 c =
    let args = c.args in
    list_none (bytes "broadcast" ∷ bytes "chan" ∷ []) (channel_item
    (names_in args.s.now args.channels args.count)) args.count (omega arith)

pub put_channel-place-requires : goal.put_channel-place-requires
put_channel-place-requires c = (
  c.requires.0,
  omega arith,
  c.requires.1,
)

pub loop-i-init : goal.loop-i-init
loop-i-init c = left_all

pub put_channel-place-requires-in-loop-i : goal.put_channel-place-requires-in-loop-i
put_channel-place-requires-in-loop-i c = (
  c.requires.0,
  omega arith,
  c.requires.1,
)

pub loop-i-preserved : goal.loop-i-preserved
loop-i-preserved c =
    let args = c.args in
    let loop = c.loop-i in
    list_next (channel_item (names_in args.s.now args.channels args.count)) args.count loop.i
    (omega arith) loop.invariant c.put_token-comma.ensures
    c.put_channel-place-in-loop-i.ensures

pub returns : goal.returns
unfolding channel_list
returns c =
    let args = c.args in
    let loop = c.loop-i in
    list_some (bytes "broadcast" ∷ bytes "chan" ∷ []) (channel_item
    (names_in args.s.now args.channels args.count)) args.count loop.i (omega arith) (omega arith)
    (tokens_then c.put_token-word.ensures
    c.put_token-start.ensures) c.put_channel-place.ensures loop.invariant c.put_token.ensures
