use borrow.Author.Rules.{rules}
use native.Mathlib.Omega.{arith}
use Rattle.tables.proofs.Paths.{widest_keep_short, widest_table_short, widest_not_safe, widest_made}
use Rattle.tables.proofs.widest.Goals as goal

pub returns-then-keep-needed : goal.returns-then-keep-needed
returns-then-keep-needed c = widest_keep_short c.bytes_for-needed.ensures c.if-keep-needed.true

pub returns-then-table-size : goal.returns-then-table-size
returns-then-table-size c =
    widest_table_short c.bytes_for-needed.ensures c.if-keep-needed.false c.table_length-size.ensures
    c.if-table-size.true

pub returns-then-not-prepare : goal.returns-then-not-prepare
returns-then-not-prepare c =
    widest_not_safe c.bytes_for-needed.ensures c.if-keep-needed.false c.table_length-size.ensures
    c.if-table-size.false c.prepare.ensures c.if-not-prepare.true

pub returns : goal.returns
returns c =
    widest_made c.bytes_for-needed.ensures c.if-keep-needed.false c.table_length-size.ensures c.if-table-size.false
    c.prepare.ensures c.if-not-prepare.false c.make_widest.ensures
