use Rattle.std.proofs.Common.{arith, ◌∙◌, ap, ◌++◌, ℕ, replicate, length-take, drop}
use Rattle.bitmaps.specs.BitLaws.{written_all}
use Rattle.bitmaps.proofs.fill.Goals as goal

pub returns : goal.returns
returns c =
    let args = c.args in
    rw (c.fill.ensures.after (λ y e. e), length-take args.m args.s.now)
    (ap (λ (k : ℕ). replicate k args.b ++ drop args.m args.s.now) (omega arith) ∙ written_all args.b args.m args.s.now)
