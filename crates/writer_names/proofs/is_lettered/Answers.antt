-- The letter, and the underscores before it.
use mathlib.Core.Path.{sym, ◌∙◌}
use lib.ListN.{replicate}
use Rattle.writer_tokens.specs.Tokens.{underscore}
use Rattle.writer_names.proofs.Words.{last_no, last_yes, last_some}
use Rattle.writer_names.proofs.is_lettered.Goals as goal

pub returns-then-not-is_last : goal.returns-then-not-is_last
returns-then-not-is_last c =
    let args = c.args in
    sym (last_no args.s.now args.place (replicate args.u underscore) args.letter args.len c.requires
    (sym c.is_last.ensures ∙ c.if-not-is_last.true))

pub overflow_sub-len : goal.overflow_sub-len
overflow_sub-len c =
    let args = c.args in
    last_some args.s.now args.place args.len args.letter
    (sym c.is_last.ensures ∙ c.if-not-is_last.false)

pub returns : goal.returns
returns c =
    let args = c.args in
    c.are_underscores.ensures
    ∙ sym (last_yes args.s.now args.place (replicate args.u underscore) args.letter args.len
    c.requires (sym c.is_last.ensures ∙ c.if-not-is_last.false))
