-- `mark_kind` is `mark_kind`.
use mathlib.Core.Path.{sym}
use Rattle.reader_tokens.specs.Tokens.{mark_kind}
use Rattle.reader_tokens.proofs.mark_kind.Goals as goal

pub returns-then-is_pair : goal.returns-then-is_pair
unfolding mark_kind
returns-then-is_pair c =
    let is-pair-call = c.is_pair in
    rw (
      sym is-pair-call.ensures,
      c.if-is_pair.true,
      c.wide.ensures,
      c.wide-then-is_pair.ensures,
    )

pub returns-then-is_single : goal.returns-then-is_single
unfolding mark_kind
returns-then-is_single c =
    let is-pair-call = c.is_pair in
    let if1 = c.if-is_pair in
    rw (
      sym is-pair-call.ensures,
      if1.false,
      sym
          c.is_single.ensures,
      c.if-is_single.true,
      c.wide-then-is_single.ensures,
    )

pub returns : goal.returns
unfolding mark_kind
returns c =
    let is-pair-call = c.is_pair in
    rw (
      sym is-pair-call.ensures,
      c.if-is_pair.false,
      sym
          c.is_single.ensures,
      c.if-is_single.false,
    )
