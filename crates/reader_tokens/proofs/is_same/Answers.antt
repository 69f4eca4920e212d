-- `is_same` is `same`: lengths, then bytes.
use borrow.Author.Tests.{eq-eqb, ne_eqb}
use mathlib.Core.Path.{sym}
use Rattle.reader_tokens.specs.Scan.{same}
use Rattle.reader_tokens.proofs.is_same.Goals as goal

pub returns-then-m-n : goal.returns-then-m-n
unfolding same
returns-then-m-n c = rw (ne_eqb _ _ c.if-m-n.true)

pub returns : goal.returns
unfolding same
returns c = rw (eq-eqb _ _ c.if-m-n.false, sym c.agrees.ensures)
