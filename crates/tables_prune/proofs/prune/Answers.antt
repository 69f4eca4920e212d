-- The first i entries are pruned, the others are as they were.
use Rattle.std.specs.Prelude.{◌≡◌, List, ℕ, ◌*◌, get_or, set}
use Rattle.std.proofs.Common.{arith, sym, ◌∙◌, ap}
use Rattle.bitmaps.specs.Bits.{bit_at}
use Rattle.bitmaps.specs.BitLaws.{written_none, written_more, written_past}
use Rattle.tables_prune.specs.Prune.{kept_of}
use Rattle.tables_prune.proofs.Laws.{pruned_is, entry_in}
use Rattle.tables_prune.proofs.prune.Goals as goal
use Rattle.tables_prune.proofs.prune.Goals.{In-loop-i}

pub loop-i-init : goal.loop-i-init
loop-i-init c = sym (written_none _ _)

-- the entry that comes next is as it was
same : (c : In-loop-i) → get_or c.loop-i.moves c.loop-i.i 0 ≡ get_or c.args.moves.now c.loop-i.i 0
same c =
    ap (λ (y : List ℕ). get_or y c.loop-i.i 0) c.loop-i.invariant
    ∙ written_past (λ (j : ℕ). kept_of (bit_at c.args.keep.now) (get_or c.args.moves.now j 0)) c.loop-i.i
    c.args.moves.now c.loop-i.i (omega arith)

pub kept-requires : goal.kept-requires
kept-requires c = λ e.
    let is = same (goal.at.kept-requires c).In-loop-i in
    omega (arith, is, c.requires.1, entry_in c.requires.0 c.loop-i.i c.loop-i-test.true (λ f. e (is ∙ f)))

pub loop-i-preserved : goal.loop-i-preserved
loop-i-preserved c =
    ap (λ (y : List ℕ). set y c.loop-i.i c.kept.result) c.loop-i.invariant
    ∙ written_more (λ (j : ℕ). kept_of (bit_at c.args.keep.now) (get_or c.args.moves.now j 0)) c.loop-i.i
    c.args.moves.now c.kept.result (omega (arith, c.requires.0.room))
    (c.kept.ensures ∙ ap (kept_of (bit_at c.args.keep.now)) (same (goal.at.loop-i-preserved c).In-loop-i))

pub returns : goal.returns
returns c =
    let e : c.loop-i.i ≡ c.args.n * c.args.steps = omega arith in
    rw (c.loop-i.invariant, e) (pruned_is c.requires.0 c.args.keep.now)
