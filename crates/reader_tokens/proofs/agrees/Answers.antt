-- `agrees` is `agree`: where a list is too short, and by the bytes that are left to compare.
use Rattle.std.proofs.Common.{◌≡◌, ◌-◌, ◌+◌, arith, sym, ◌∙◌}
use Rattle.reader_tokens.proofs.Scan.{rest, agree_short, agree_no_more, agree_no, agree_yes, agree_none}
use Rattle.reader_tokens.proofs.agrees.Goals as goal

pub returns-then-x-n : goal.returns-then-x-n
returns-then-x-n c =
    sym (agree_short c.args.n _ _ (rw (c.min.ensures, rest c.args.p c.args.s.now) at c.if-x-n.true))

pub returns-then-y-n : goal.returns-then-y-n
returns-then-y-n c =
    sym (agree_no_more c.args.n _ _ (rw (c.min-2.ensures, rest c.args.q c.args.t.now) at c.if-y-n.true))

pub loop-k-init : goal.loop-k-init
loop-k-init c =
    let all : c.args.n - 0 ≡ c.args.n = omega arith in
    rw (all, c.min.ensures, c.min-2.ensures, rest c.args.p c.args.s.now, rest c.args.q c.args.t.now)

pub returns-then-x-k : goal.returns-then-x-k
returns-then-x-k c =
    let k = c.loop-k.k in
    sym (agree_no _ k _ k (omega arith) (omega arith) (c.args.n - k) (omega arith) c.if-x-k.true) ∙ c.loop-k.invariant

pub loop-k-preserved : goal.loop-k-preserved
loop-k-preserved c =
    let k = c.loop-k.k in
    let one : c.args.n - k - 1 ≡ c.args.n - (k + 1) = omega arith in
    rw (← one) (sym (agree_yes _ k _ k (omega arith) (omega arith) (c.args.n - k) (omega arith) c.if-x-k.false)
    ∙ c.loop-k.invariant)

pub returns : goal.returns
returns c =
    sym (agree_none (c.args.n - c.loop-k.k) _ _ (omega arith)) ∙ c.loop-k.invariant
