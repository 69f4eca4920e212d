-- `is_pair` is `is_pair`: each first byte with its second.
use borrow.Author.Tests.{ne_eqb}
use mathlib.Core.Bool.{or-false}
use Prim.Native.Char.{code}
use Rattle.reader_tokens.specs.Tokens.{is_pair}
use Rattle.reader_tokens.proofs.is_pair.Goals as goal

pub returns-in-45 : goal.returns-in-45
unfolding is_pair
returns-in-45 c = rw (c.in-45.is, or-false)

pub returns-in-60 : goal.returns-in-60
unfolding is_pair
returns-in-60 c = rw (c.in-60.is, or-false)

pub returns-in-62 : goal.returns-in-62
unfolding is_pair
returns-in-62 c = rw (c.in-62.is, or-false)

pub returns-in-61 : goal.returns-in-61
unfolding is_pair
returns-in-61 c = rw (c.in-61.is, or-false)

pub returns-in-38 : goal.returns-in-38
unfolding is_pair
returns-in-38 c = rw c.in-38.is

pub returns-in_default : goal.returns-in_default
unfolding is_pair
returns-in_default c = rw (
  ne_eqb _ (code "-") c.in_default.in_default-own.rest.0.0.0.0.1,
  ne_eqb _ (code "<") c.in_default.in_default-own.rest.0.0.0.1,
  ne_eqb _ (code ">")
      c.in_default.in_default-own.rest.0.0.1,
  ne_eqb _ (code "=") c.in_default.in_default-own.rest.0.1,
  ne_eqb _ (code "&") c.in_default.in_default-own.rest.1,
)
