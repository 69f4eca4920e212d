-- The bytes are replaced by as many of 0.
use Rattle.std.specs.Prelude.{◌≡◌, ◌+◌, ◌-◌, ℕ, length, take, drop, replicate}
use Rattle.std.proofs.Common.{arith, ap, ◌∙◌}
use Rattle.std.proofs.lemmas.Grind.{common_steps}
use Rattle.tables_ranges.proofs.Laws.{cut_cleared}
use Rattle.tables_ranges.proofs.clear_bytes.Goals as goal

pub returns : goal.returns
returns c =
    let e : c.args.j + c.args.m - c.args.j ≡ c.args.m = omega arith in
    let part : length (take (c.args.j + c.args.m - c.args.j) (drop c.args.j c.args.row.now)) ≡ c.args.m =
    grind (arith, common_steps) in
    rw e (cut_cleared c.args.row.now c.fill.new.self c.args.j c.args.m (omega arith)
    (c.fill.ensures.after (λ y e. e) ∙ ap (λ (n : ℕ). replicate n 0) part))
