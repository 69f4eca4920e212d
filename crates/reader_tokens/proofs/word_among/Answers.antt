-- `word_among` is `word_kind`: the words are tried in the order of their kinds, and the row goes on with them.
use native.Mathlib.Omega.{arith}
use mathlib.Core.Path.{refl, sym, ◌∙◌}
use Rattle.reader_tokens.specs.Kinds.{broadcast}
use Rattle.reader_tokens.specs.Tokens.{words, word_kind}
use Rattle.reader_tokens.proofs.Words.{word_yes, word_no, row_next, row_room, word_end}
use Rattle.reader_tokens.proofs.word_among.Goals as goal

pub loop-i-init : goal.loop-i-init
unfolding word_kind
loop-i-init c = (omega arith, (c.requires.0, refl))

pub returns-then-is_same : goal.returns-then-is_same
returns-then-is_same c =
    let pre = c.requires in
    let loop = c.loop-i in
    sym (word_yes words _ pre.1
    loop.i _ loop.at (omega arith)
    loop.invariant.1.0 _ _ _ (sym c.is_same.ensures ∙ c.if-is_same.true))
    ∙ loop.invariant.1.1

pub overflow_add-at : goal.overflow_add-at
overflow_add-at c =
    let pre = c.requires in
    let loop = c.loop-i in
    omega (
      arith,
      row_room words _ pre.1
          loop.i _ loop.at (omega arith)
          loop.invariant.1.0 loop.invariant.0,
    )

pub loop-i-preserved : goal.loop-i-preserved
loop-i-preserved c =
    let pre = c.requires in
    let loop = c.loop-i in (
      omega (
        arith,
        row_room words _
            pre.1
            loop.i _ loop.at (omega arith)
            loop.invariant.1.0 loop.invariant.0,
      ),
      (
        row_next words _ pre.1
            loop.i _ loop.at (omega arith)
            loop.invariant.1.0,
        sym
            (word_no words _ pre.1
            loop.i _ loop.at (omega arith)
            loop.invariant.1.0 broadcast _ _ (sym c.is_same.ensures ∙ c.if-is_same.false))
            ∙ loop.invariant.1.1,
      ),
    )

pub returns : goal.returns
returns c =
    let pre = c.requires in
    let loop = c.loop-i in
    sym (word_end words _ pre.1 loop.i
    (omega arith) _ _ _) ∙ loop.invariant.1.1
