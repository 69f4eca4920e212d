-- first_row leaves nothing in the row of a state that is not safe, and cuts any other by one mask after the other.
use Rattle.std.specs.Prelude.{◌≡◌, List, ℕ}
use Rattle.std.proofs.Common.{arith, ap, sym, ◌∙◌, subst}
use Rattle.bitmaps.specs.Bits.{bit_at}
use Rattle.tables_first.specs.Cuts.{Cuts, cuts_none, cuts_more}
use Rattle.tables_first.specs.Masks.{passes}
use Rattle.tables_first.proofs.Laws.{copied_bit, zero_bit, row_empty, row_cut}
use Rattle.tables_first.proofs.first_row.Goals as goal

pub returns-then-not-get : goal.returns-then-not-get
returns-then-not-get c =
    let if1 = c.if-not-get in
    row_empty (sym c.get.ensures ∙ if1.true)
    (λ t h. ap (λ (x : List ℕ). bit_at x t) c.fill.ensures ∙ zero_bit c.args.row.now c.bytes_for-b.result t
    (omega (arith, c.bytes_for-b.ensures)))

pub loop-c-init : goal.loop-c-init
loop-c-init c =
    cuts_none (λ t h. ap (λ (x : List ℕ). bit_at x t) c.copy.ensures
    ∙ copied_bit c.args.holds.now c.args.row.now c.bytes_for-b.result t (omega (arith, c.bytes_for-b.ensures)))

pub loop-c-preserved : goal.loop-c-preserved
loop-c-preserved c = cuts_more c.loop-c.invariant c.cut_by_mask.ensures

pub row_lost-lost-requires : goal.row_lost-lost-requires
row_lost-lost-requires c =
    let pre = c.requires in
    let cuts = c.loop-c.invariant in (
      pre.1.0,
      (pre.1.1.1.1.0.is.room, (omega arith, record { among = λ i h x. (cuts.kept i h x).0; spare = cuts.spare })),
    )

pub returns : goal.returns
returns c =
    let args = c.args in
    let pre = c.requires in
    let kept = c.if-not-get in
    let w = args.sides.right_states in
    let e : c.loop-c.c ≡ args.sides.steps = omega arith in (
      row_cut pre.1.1.1.1.0 (sym c.get.ensures ∙ kept.false)
          (subst (λ (x : ℕ). Cuts w (bit_at args.holds.now) (λ (y : ℕ). ⊥)
          (passes args.lm.now args.masks.now w args.sides.steps args.s) x c.loop-c.row) e c.loop-c.invariant),
      omega (arith, c.row_lost-lost.ensures, pre.1.1.1.1.1.1.1),
    )
