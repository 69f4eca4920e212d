-- The last digit, then the letter or the digits before it: those are the digits of a tenth of the number.
use mathlib.Core.Path.{sym, ◌∙◌}
use Rattle.writer_names.proofs.Words.{last_digit, last_some, digit_no, digit_one, digit_more}
use Rattle.writer_names.proofs.+is_called.Goals as goal

pub returns-then-not-is_last : goal.returns-then-not-is_last
returns-then-not-is_last t c =
    let args = c.args in
    sym (digit_no args.letter args.u args.i args.s.now args.place args.len c.requires
    (sym c.is_last.ensures ∙ c.if-not-is_last.true))

pub returns-then-i-lt-TEN : goal.returns-then-i-lt-TEN
returns-then-i-lt-TEN t c =
    let args = c.args in
    c.is_lettered.ensures
    ∙ sym (digit_one args.letter args.u args.i args.s.now args.place args.len c.requires
    c.if-i-lt-TEN.true
    (sym c.is_last.ensures ∙ c.if-not-is_last.false))

pub returns : goal.returns
returns t c =
    let args = c.args in
    c.is_called.ensures
    ∙ sym (digit_more args.letter args.u args.i args.s.now args.place args.len c.requires
    c.if-i-lt-TEN.false
    (sym c.is_last.ensures ∙ c.if-not-is_last.false))

pub overflow_sub-len : goal.overflow_sub-len
overflow_sub-len t c =
    let args = c.args in
    last_some args.s.now args.place args.len (last_digit args.i)
    (sym c.is_last.ensures ∙ c.if-not-is_last.false)

pub overflow_sub-len-2 : goal.overflow_sub-len-2
overflow_sub-len-2 t c =
    let args = c.args in
    last_some args.s.now args.place args.len (last_digit args.i)
    (sym c.is_last.ensures ∙ c.if-not-is_last.false)
