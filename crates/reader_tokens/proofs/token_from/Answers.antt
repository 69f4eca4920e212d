-- `token_from` is `token_from`, case by case.
use borrow.Author.Tests.{lt-ltb, le-ltb}
use mathlib.Core.Path.{sym}
use Rattle.reader_tokens.specs.Tokens.{token_from}
use Rattle.reader_tokens.proofs.token_from.Goals as goal

pub returns-then-is_letter : goal.returns-then-is_letter
unfolding token_from
returns-then-is_letter c = rw (
  lt-ltb _ _ c.if-p-s.true,
  sym
      c.is_letter.ensures,
  c.if-is_letter.true,
  c.word_at.ensures,
)

pub returns-then-is_digit : goal.returns-then-is_digit
unfolding token_from
returns-then-is_digit c = rw (
  lt-ltb _ _ c.if-p-s.true,
  sym
      c.is_letter.ensures,
  c.if-is_letter.false,
  sym
      c.is_digit.ensures,
  c.if-is_digit.true,
  c.run_end-e.ensures,
)

pub returns-then-p-s : goal.returns-then-p-s
unfolding token_from
returns-then-p-s c = rw (
  lt-ltb _ _ c.if-p-s.true,
  sym
      c.is_letter.ensures,
  c.if-is_letter.false,
  sym
      c.is_digit.ensures,
  c.if-is_digit.false,
  c.mark_at.ensures,
)

pub returns : goal.returns
unfolding token_from
returns c = rw (le-ltb _ _ c.if-p-s.false)
